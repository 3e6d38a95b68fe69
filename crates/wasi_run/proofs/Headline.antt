-- What a script's record says of the run of its lines, and of the closings after it.
use Rattle.wasi_run.proofs.Words.{◌∙◌, refl, ap, sym, append-nil, ℕ, List, [], ◌∷◌, ◌++◌, ◌+◌, length, Some, Result, Ok, Err, false, ◌≡◌, OnOk, Entry, WasiSocketsCtx, Seen, Reading, Writing, Machine, HasRun, Step, RunError, Memory, LinesEnd, Met, Beyond, first_state, IsFresh, HasClosedAll, stays_open}
use Rattle.std.specs.Prelude.{Option}
use Rattle.wasi_world.specs.declared.ids.OpId.{OpId}
use Rattle.wasi_run.specs.declared.run.RunEnd.{RunEnd}
use Rattle.host_store.specs.KnownSides.{KnowsSides}
use Rattle.wasi_records.specs.Closing.{HasClosedEach}
use Rattle.wasi_records.specs.Sides.{ClosesAll}
use Rattle.record_common.specs.Sides.{no_socket}
use Rattle.wasi_run.specs.Script.{RanOver, RanScript}
use Rattle.wasi_run.specs.Causes.{BeginsRun, DoneLines}
use Rattle.wasi_run.specs.Headline.{RunsLicensed}
use Rattle.wasi_walks.proofs.licence.Runs as licence
use Rattle.wasi_records.proofs.Closings.{empty_known}
use Rattle.wasi_run.proofs.CauseLaws.{whole_by}

-- at every return what was asked is a prefix of the run of the lines done and the one met
pub begins_run : {contexts : List WasiSocketsCtx} {limit : ℕ} {before after : Reading} {k_old k_new : Writing} {w_old w_new : Seen} {result : Result RunEnd RunError} → RanScript contexts limit before after k_old k_new w_old w_new result → BeginsRun contexts limit before after w_old w_new
begins_run h = record {
  text = h.over.text;
  gave = h.over.gave;
  steps = h.over.ran.steps ++ h.over.ran.met;
  first_lines = h.over.ran.first_lines;
  stopped = h.stopped;
  began = h.over.ran.began [];
  quiet = h.quiet;
}

-- == the log
-- what was asked after the lines done is in the log after what they asked
module _ (contexts : List WasiSocketsCtx) (state : Machine) (line : ℕ) (old now : Seen) (front : List Entry) (log : old.log ≡ Some front) where
  abbrev Follows : Type 0
  Follows = (back : List Entry) × (now.log ≡ Some (front ++ back))

  nothing_follows : now ≡ old → Follows
  nothing_follows same = ([], ap (λ (s : Seen). s.log) same ∙ (log ∙ ap Some (sym (append-nil front))))

  met_follows : (met : List Step) → Met contexts state line met old now → Follows
  met_follows [] h = nothing_follows h
  met_follows (s ∷ []) h = (h.reached.entries, rw log at h.reached.passed.log)
  met_follows (s ∷ t ∷ more) h = absurd h

  follows : (outcome : Result LinesEnd RunError) (met : List Step) → Beyond contexts outcome state line met old now → Follows
  follows (Err Memory) met h = met_follows met h
  follows _ met h = nothing_follows h.1

module _ {contexts : List WasiSocketsCtx} {limit : ℕ} {before after : Reading} {k_old k_new : Writing} {w_old w_new : Seen} {result : Result RunEnd RunError} where
  -- of a world that reports its log, which was empty when the run began
  has_run : (h : RanScript contexts limit before after k_old k_new w_old w_new result) → w_old.log ≡ Some [] → (log : List Entry) × (w_new.log ≡ Some log) × HasRun contexts (h.over.ran.steps ++ h.over.ran.met) log h.over.ran.replies
  has_run h empty =
      let lines = h.over.ran in
      let begun = lines.began [] in
      let ran = lines.ran [] in
      let log : h.stopped.log ≡ Some begun.reached.entries = rw empty at begun.reached.passed.log in
      let front : lines.seen.log ≡ Some ran.entries = rw empty at ran.passed.log in
      let back = follows contexts lines.state (1 + length lines.steps) lines.seen h.stopped ran.entries front h.over.outcome lines.met lines.beyond in
      let cut : begun.reached.entries ≡ ran.entries ++ back.0 = (let other = back.1 in cc) in (
        begun.reached.entries,
        h.quiet.log ∙ log,
        record {
          rest = begun.rest;
          begun = begun.reached.left;
          done = lines.steps;
          more = lines.met;
          first = refl;
          answered = lines.answered;
          front = ran.entries;
          back = back.0;
          cut = cut;
          state = lines.state;
          ran = ran.left;
        },
      )

  -- at every return the log is licensed
  pub runs_licensed : RanScript contexts limit before after k_old k_new w_old w_new result → RunsLicensed contexts limit before after k_old k_new w_old w_new result
  runs_licensed h = record {
    ran = h;
    licensed = λ empty.
        let run = has_run h empty in
        rw run.1 (run.2, licence.runs_licensed contexts (h.over.ran.steps ++ h.over.ran.met) run.0 h.over.ran.replies run.2);
  }

-- whole at Ok, and so are the replies
pub whole_at_ok : {contexts : List WasiSocketsCtx} {limit : ℕ} {before after : Reading} {k_old k_new : Writing} {w_old w_new : Seen} (result : Result RunEnd RunError) → RanScript contexts limit before after k_old k_new w_old w_new result → OnOk result (DoneLines contexts limit before after k_old k_new w_old w_new)
whole_at_ok (Ok a) h = whole_by h.over.text a h.over.gave h.over.outcome h.over.ran h.over.answer h.quiet
whole_at_ok (Err e) h = tt

module _ {contexts : List WasiSocketsCtx} {limit : ℕ} {before after : Reading} {k_old k_new : Writing} {w_old stopped : Seen} {last : Machine} {result : Result RunEnd RunError} where
  pub over_open : RanOver contexts limit before after k_old k_new w_old stopped last result → w_old.ended ≡ false → stopped.ended ≡ false
  over_open h e = stays_open h.ran e

  -- all network sockets are closed at the end
  pub has_closed : {w_new : Seen} → RanOver contexts limit before after k_old k_new w_old stopped last result → (KnowsSides stopped last.store → ClosesAll stopped w_new) → IsFresh w_old → HasClosedAll w_new
  has_closed h closes fresh =
      let known : KnowsSides w_old first_state.store = record { count = empty_known w_old.log no_socket fresh.log refl } in
      record { count = (closes (h.ran.sides known)).count ((h.ran.began []).reached.passed.closings ∙ fresh.closings) }

  -- each by its name
  pub has_closed_each : {w_new : Seen} {closed : Option (List OpId)} → RanOver contexts limit before after k_old k_new w_old stopped last result → (KnowsSides stopped last.store → HasClosedEach w_new closed) → IsFresh w_old → HasClosedEach w_new closed
  has_closed_each h closes fresh = closes (h.ran.sides (record { count = empty_known w_old.log no_socket fresh.log refl }))
