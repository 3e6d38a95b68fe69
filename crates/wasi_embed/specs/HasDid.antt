-- What a host did, whatever program made its calls.
use Rattle.std.specs.Prelude.{◌≡◌, List, [], Option, Some, None}
use Rattle.wasi_world.specs.declared.call.Entry.{Entry}
use Rattle.wasi_world.specs.Seen.{Seen}
use Rattle.wasi_records.specs.Closing.{IsFresh}
use Rattle.wasi_steps.specs.declared.step.Step.{Step}
use Rattle.wasi_steps.specs.declared.reply.Reply.{Reply}
use Rattle.wasi_walks.specs.Licence.{IsLicensed}
use Rattle.wasi_session.specs.State.{State}
use Rattle.wasi_session.specs.Did.{Did}
use Rattle.wasi_embed.specs.declared.kept.Kept.{Kept}
use Rattle.wasi_embed.specs.declared.kept.Kept.TheVariants.{Silent, Noted}

-- the session, whether its log is kept or not
abbrev pub state_of : Kept → State
state_of (Silent session) = session
state_of (Noted session) = session

-- the log before the first step, where one is kept
abbrev pub first_log : Kept → Option (List Entry)
first_log (Silent session) = None
first_log (Noted session) = Some []

-- From a fresh world on the host did some steps, gave these replies, and did nothing else.
pub record HasDid (kept : Kept) : Type 0 where
  pub steps : List Step
  pub replies : List Reply
  pub start : Seen
  pub fresh : IsFresh start
  pub first : start.log ≡ first_log kept
  pub did : Did (state_of kept) steps replies start

-- The log is licensed by some steps and their replies.
pub record HasLicence (kept : Kept) (log : List Entry) : Type 0 where
  pub steps : List Step
  pub replies : List Reply
  pub licensed : IsLicensed (state_of kept).contexts steps log replies
