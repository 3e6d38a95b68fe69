-- How a session goes on by the parts of a guest, one after another.
use Rattle.std.proofs.Common.{◌≡◌, refl, sym, List, [], ◌∷◌, ◌++◌, Result, Ok, Err, append-nil}
use Rattle.std.specs.Result.{IsErr}
use Rattle.wasi_world.specs.Seen.{Seen}
use Rattle.wasi_steps.specs.declared.step.Step.{Step}
use Rattle.wasi_steps.specs.declared.reply.Reply.{Reply}
use Rattle.wasi_session.specs.declared.error.StepError.{StepError}
use Rattle.wasi_session.specs.declared.error.StepError.TheVariants.{Over, TooMany, NoContext, Memory}
use Rattle.wasi_session.specs.State.{State}
use Rattle.wasi_session.specs.Did.{Did, DidNext}
use Rattle.wasi_relay.specs.Guest.{Guest, Do, Ends, Part, give, one, ◌>>=◌, Leads}
use Rattle.wasi_relay.specs.Went.{Stands, Stopped, Stays, Went, given}

-- one more step with its reply
pub leads_on : (guest : Guest) (steps : List Step) (replies : List Reply) (step : Step) (next : Reply → Guest) (reply : Reply) → Leads guest steps replies (Do step next) → Leads guest (steps ++ step ∷ []) (replies ++ reply ∷ []) (next reply)
leads_on guest [] [] step next reply h = rw h (refl, refl)
leads_on (Do s more) (x ∷ steps) (r ∷ replies) step next reply h = (h.0, leads_on (more r) steps replies step next reply h.1)
leads_on (Do s more) [] (r ∷ replies) step next reply h = absurd h
leads_on (Do s more) (x ∷ steps) [] step next reply h = absurd h
leads_on (Ends end pairs) [] (r ∷ replies) step next reply h = absurd h
leads_on (Ends end pairs) (x ∷ steps) [] step next reply h = absurd h
leads_on (Ends end pairs) (x ∷ steps) (r ∷ replies) step next reply h = absurd h

pub stopped_at : {guest rest : Guest} {start : Seen} {s : State} → Stands guest rest start s → Stopped guest start s
stopped_at {rest = rest} h = record {
  steps = h.steps;
  replies = h.replies;
  begins = record { answered = h.steps; missed = []; rest = rest; all = sym (append-nil h.steps); leads = h.leads; next = tt };
  did = h.did;
}

-- == one step
module _ {old : State} {guest : Guest} {start : Seen} (step : Step) (next : Reply → Guest) (h : Stands guest (Do step next) start old) where
  answered : {new : State} (reply : Reply) → Did new (h.steps ++ step ∷ []) (h.replies ++ reply ∷ []) start → Stands guest (next reply) start new
  answered reply did = record { steps = _; replies = _; leads = leads_on guest h.steps h.replies step next reply h.leads; did = did }

  missed_it : {new : State} → Did new (h.steps ++ step ∷ []) h.replies start → Stopped guest start new
  missed_it did = record {
    steps = h.steps ++ step ∷ [];
    replies = h.replies;
    begins = record { answered = h.steps; missed = step ∷ []; rest = Do step next; all = refl; leads = h.leads; next = refl };
    did = did;
  }

  undone : {new : State} → Did new h.steps h.replies start → Stopped guest start new
  undone did = record {
    steps = h.steps;
    replies = h.replies;
    begins = record { answered = h.steps; missed = []; rest = Do step next; all = sym (append-nil h.steps); leads = h.leads; next = tt };
    did = did;
  }

  one_stays : (new : State) (result : Result Reply StepError) → DidNext result step h.steps h.replies start new → Stays guest start next new result
  one_stays new (Ok reply) did = answered reply did
  one_stays new (Err Memory) did = missed_it did
  one_stays new (Err Over) did = undone did
  one_stays new (Err TooMany) did = undone did
  one_stays new (Err (NoContext n)) did = undone did

pub went_one : {old new : State} (step : Step) (result : Result Reply StepError) → ((steps : List Step) (replies : List Reply) (start : Seen) → Did old steps replies start → DidNext result step steps replies start new) → new.contexts ≡ old.contexts → Went (one step) old new result
went_one step result did same = record {
  goes = λ guest start next h. one_stays step next h _ result (did h.steps h.replies start h.did);
  contexts = same;
}

-- == parts after one another
-- nothing was done
pub went_give : {A : Type 0} {s : State} (a : A) → Went (give a) s s (Ok a)
went_give a = record { goes = λ guest start next h. h; contexts = refl }

pub went_nowhere : {A : Type 0} {s : State} (part : Part A) (e : StepError) → Went part s s (Err e)
went_nowhere part e = record { goes = λ guest start next h. stopped_at h; contexts = refl }

-- it stopped in the first
pub went_stop : {A B : Type 0} {old new : State} {part : Part A} (more : A → Part B) {e : StepError} → Went part old new (Err e) → Went (part >>= more) old new (Err e)
went_stop more h = record { goes = λ guest start next st. h.goes guest start (λ a. more a next) st; contexts = h.contexts }

pub went_then : {A B : Type 0} {old mid new : State} {part : Part A} (more : A → Part B) {a : A} {result : Result B StepError} → Went part old mid (Ok a) → Went (more a) mid new result → Went (part >>= more) old new result
went_then more h k = record { goes = λ guest start next st. k.goes guest start next (h.goes guest start (λ a. more a next) st); contexts = rw k.contexts h.contexts }

-- == where a function returns early
pub went_quits : {A B : Type 0} {old new : State} {part : Part A} {e : StepError} (more : A → Part B) (result : Result B StepError) → IsErr result → Went part old new (Err e) → Went (part >>= more) old new result
went_quits more (Ok b) is h = absurd (cc)
went_quits more (Err e) is h = record { goes = λ guest start next st. h.goes guest start (λ a. more a next) st; contexts = h.contexts }

pub went_never : {A : Type 0} {s : State} (part : Part A) (result : Result A StepError) → IsErr result → Went part s s result
went_never part (Ok a) is = absurd (cc)
went_never part (Err e) is = went_nowhere part e

-- the same, where what is given stands beside the result
pub went_quits_given : {A B T : Type 0} {old new : State} {part : Part A} {e : StepError} (more : A → Part B) (b : B) (result : Result T StepError) → IsErr result → Went part old new (Err e) → Went (part >>= more) old new (given b result)
went_quits_given more b (Ok done) is h = absurd (cc)
went_quits_given more b (Err e) is h = record { goes = λ guest start next st. h.goes guest start (λ a. more a next) st; contexts = h.contexts }

pub went_never_given : {A T : Type 0} {s : State} (part : Part A) (a : A) (result : Result T StepError) → IsErr result → Went part s s (given a result)
went_never_given part a (Ok done) is = absurd (cc)
went_never_given part a (Err e) is = went_nowhere part e

-- what is given stands beside the result, and is seen otherwise
pub went_maps : {A B T : Type 0} {old new : State} {part : Part A} (f : A → B) (a : A) (result : Result T StepError) → Went part old new (given a result) → Went (part >>= λ x. give (f x)) old new (given (f a) result)
went_maps f a (Ok done) h = went_then (λ x. give (f x)) h (went_give (f a))
went_maps f a (Err e) h = went_stop (λ x. give (f x)) h

-- == loops
-- It came from one part to another.
pub record Comes {A : Type 0} (part rest : Part A) (old s : State) : Type 0 where
  pub goes : (guest : Guest) (start : Seen) (next : A → Guest) → Stands guest (part next) start old → Stands guest (rest next) start s
  pub contexts : s.contexts ≡ old.contexts

pub comes_here : {A : Type 0} {s : State} (part : Part A) → Comes part part s s
comes_here part = record { goes = λ guest start next h. h; contexts = refl }

pub comes_as : {A : Type 0} {part rest more : Part A} {old s : State} → rest ≡ more → Comes part rest old s → Comes part more old s
comes_as e h = rw e at h

pub comes_on : {A B : Type 0} {part : Part B} {first : Part A} {old s t : State} (more : A → Part B) {a : A} → Comes part (first >>= more) old s → Went first s t (Ok a) → Comes part (more a) old t
comes_on more h k = record {
  goes = λ guest start next st. k.goes guest start (λ x. more x next) (h.goes guest start next st);
  contexts = rw k.contexts h.contexts;
}

-- and from there it went on
pub comes_went : {A : Type 0} {part rest : Part A} {old s t : State} {result : Result A StepError} → Comes part rest old s → Went rest s t result → Went part old t result
comes_went h k = record {
  goes = λ guest start next st. k.goes guest start next (h.goes guest start next st);
  contexts = rw k.contexts h.contexts;
}
