-- One ask more of a poll.
use Rattle.std.specs.Prelude.{◌≡◌, ℕ, suc, List, [], ◌∷◌, Result, Ok, Err, refl, IsErrAnd}
use Rattle.std.specs.declared.alloc.AllocError.{AllocError}
use Rattle.std.proofs.Common.{◌∙◌, sym, subst}
use Rattle.wasi_addr.specs.declared.address.ShutdownType.TheVariants as half
use Rattle.wasi_addr.specs.declared.code.ErrorCode.{ErrorCode}
use Rattle.wasi_world.specs.declared.outcome.Answer.{Answer}
use Rattle.wasi_world.specs.declared.outcome.Answer.TheVariants as answer
use Rattle.wasi_world.specs.declared.outcome.Refusal.{Refusal}
use Rattle.wasi_world.specs.declared.outcome.Refusal.TheVariants as refusal
use Rattle.wasi_world.specs.Seen.{Seen}
use Rattle.wasi_world.specs.Asks.{Give, bind, Reaches, AsksFor, outcome}
use Rattle.wasi_world.specs.Operation.{Given, Nothing, Item, Last, Who, Operation, Goes, Stays, Again, Ends, NothingLast, CloseLast, ShutdownLast, End, Waits, Done, Refused, front, polls, poll_asks, end_of, PollsFor}
use Rattle.wasi_world.specs.Typed.{ask_close, ask_shutdown}
use Rattle.wasi_world.proofs.Walks.{reaches_all, reaches_then, reaches_in, reaches_on, same_end}

-- == what the front ask came to, in a poll of any number of rounds
pub goes : (n : ℕ) (who : Who) (i j : Item) (js : List Item) {g : Given} {s t : Seen} → Reaches (front who i) (Give (Goes g)) s t → Reaches (polls (suc n) who (i ∷ j ∷ js)) (polls (suc n) who (j ∷ js)) s t
unfolding polls
goes n who i j js h = reaches_on _ h

pub done : (n : ℕ) (who : Who) (i : Item) {g : Given} {s t : Seen} → Reaches (front who i) (Give (Goes g)) s t → Reaches (polls (suc n) who (i ∷ [])) (Give (Done g, [])) s t
unfolding polls
done n who i h = reaches_on _ h

pub stays : (n : ℕ) (who : Who) (i : Item) {j : Item} (js : List Item) {s t : Seen} → Reaches (front who i) (Give (Stays j)) s t → Reaches (polls (suc n) who (i ∷ js)) (Give (Waits, j ∷ js)) s t
unfolding polls
stays n who i js h = reaches_on _ h

pub again : (n : ℕ) (who : Who) (i : Item) {j : Item} (js : List Item) {s t : Seen} → Reaches (front who i) (Give (Again j)) s t → Reaches (polls (suc n) who (i ∷ js)) (polls n who (j ∷ js)) s t
unfolding polls
again n who i js h = reaches_on _ h

-- the front ask took another form
pub becomes : (n : ℕ) (who : Who) (i j : Item) (js : List Item) {s t : Seen} → Reaches (front who i) (front who j) s t → Reaches (polls (suc n) who (i ∷ js)) (polls (suc n) who (j ∷ js)) s t
unfolding polls
becomes n who i j js h = reaches_in _ h

-- the operation ends, but for its last ask
pub ends : (n : ℕ) (who : Who) (i : Item) (js : List Item) {c : ErrorCode} {g : Given} {s t : Seen} → Reaches (front who i) (Give (Ends c g)) s t → Reaches (polls (suc n) who (i ∷ js)) (polls (suc n) who (Last c g ∷ [])) s t
unfolding polls bind
ends n who i js h = reaches_on _ h

-- it has no last ask
pub ended : (n : ℕ) (who : Who) {c : ErrorCode} {g : Given} {s : Seen} → who.last ≡ NothingLast → Reaches (polls (suc n) who (Last c g ∷ [])) (Give (Refused c g, [])) s s
unfolding polls bind
ended n who {c} {g} {s} h = rw h (reaches_all (Give (Refused c g, [])) s)

-- its last ask is made
pub ended_by_close : (n : ℕ) (who : Who) (js : List Item) {c : ErrorCode} {g : Given} {s t : Seen} → who.last ≡ CloseLast → Reaches (ask_close who.id who.side) (Give tt) s t → Reaches (polls (suc n) who (Last c g ∷ js)) (Give (Refused c g, [])) s t
unfolding polls bind
ended_by_close n who js {c} {g} h k = rw h (reaches_on (λ answer. Give (Refused c g, [])) k)

pub ended_by_shutdown : (n : ℕ) (who : Who) (js : List Item) {c : ErrorCode} {g : Given} {s t : Seen} → who.last ≡ ShutdownLast → Reaches (ask_shutdown who.id who.side half.Send) (Give tt) s t → Reaches (polls (suc n) who (Last c g ∷ js)) (Give (Refused c g, [])) s t
unfolding polls bind
ended_by_shutdown n who js {c} {g} h k = rw h (reaches_on (λ answer. Give (Refused c g, [])) k)

-- == of a whole poll
-- nothing was asked, for lack of memory
pub polls_none : {T : Type 0} (old : Operation) {s t : Seen} {gives : T → Given} {kept : Given} {d : AllocError} {r : Result (Answer T) Refusal} → IsErrAnd r (λ x. x ≡ refusal.Memory d) → t ≡ s → PollsFor gives kept old old s t r
polls_none old {s} {t} {r = Ok x} h e = absurd h
polls_none old {s} {t} {gives} {kept} {d} {r = Err x} h e =
    let P : Refusal → Type 0 = λ y. PollsFor gives kept old old s t (Err y) in
    subst P (sym h) (record { who = refl; ended = rw e (reaches_all (poll_asks old) s); mark = same_end e })

-- out of memory on the way
pub polls_err : {T : Type 0} {old new : Operation} {s t : Seen} {gives : T → Given} {kept : Given} {d : AllocError} {r : Result (Answer T) Refusal} → IsErrAnd r (λ x. x ≡ refusal.Memory d) → new.who ≡ old.who → Reaches (poll_asks old) (poll_asks new) s t → PollsFor gives kept old new s t r
polls_err {r = Ok x} h w k = absurd h
polls_err {old} {new} {s} {t} {gives} {kept} {r = Err x} h w k =
    let P : Refusal → Type 0 = λ y. PollsFor gives kept old new s t (Err y) in
    subst P (sym h) (record { who = w; ended = k; mark = k.passed.ended })

-- the poll came to its end with an answer
pub polls_end : {T : Type 0} {old new : Operation} {s t : Seen} {gives : T → Given} {kept : Given} {a : Answer T} → new.who ≡ old.who → Reaches (poll_asks old) (Give (end_of gives a, new.left)) s t → PollsFor gives kept old new s t (Ok a)
polls_end w h = record { who = w; ended = h; mark = h.passed.ended }

-- or with a code
pub polls_refused : {T : Type 0} {old new : Operation} {s t : Seen} {gives : T → Given} {kept : Given} {c : ErrorCode} → new.who ≡ old.who → Reaches (poll_asks old) (Give (Refused c kept, new.left)) s t → PollsFor gives kept old new s t (Err (refusal.Code c))
polls_refused w h = record { who = w; ended = h; mark = h.passed.ended }

-- the poll continues
pub polls_on : {T : Type 0} {old mid new : Operation} {s t u : Seen} {gives : T → Given} {kept : Given} {r : Result (Answer T) Refusal} → mid.who ≡ old.who → Reaches (poll_asks old) (poll_asks mid) s t → PollsFor gives kept mid new t u r → PollsFor gives kept old new s u r
polls_on {r = Ok x} w h k = record { who = rw (← w) k.who; ended = reaches_then h k.ended; mark = k.mark ∙ h.passed.ended }
polls_on {r = Err (refusal.Code c)} w h k = record { who = rw (← w) k.who; ended = reaches_then h k.ended; mark = k.mark ∙ h.passed.ended }
polls_on {r = Err (refusal.Memory e)} w h k = record { who = rw (← w) k.who; ended = reaches_then h k.ended; mark = k.mark ∙ h.passed.ended }

-- nothing is left to be asked
pub polls_over : {T : Type 0} (who : Who) {s : Seen} {gives : T → Given} {kept : Given} {x : T} → gives x ≡ Nothing → PollsFor gives kept (record { who = who; left = [] }) (record { who = who; left = [] }) s s (Ok (answer.Ready x))
unfolding polls
polls_over who {s} h = polls_end refl (rw h (reaches_all (Give (Done Nothing, [])) s))

-- == as a part of a call
abbrev pub end_told : {T : Type 0} → (T → Given) → Given → Result (Answer T) ErrorCode → End
end_told gives kept (Ok a) = end_of gives a
end_told gives kept (Err c) = Refused c kept

pub polls_asks : {T : Type 0} {gives : T → Given} {kept : Given} {old new : Operation} {s t : Seen} {r : Result (Answer T) Refusal} → PollsFor gives kept old new s t r → AsksFor (poll_asks old) s t (λ e. (end_told gives kept e, new.left)) (outcome r)
polls_asks {r = Ok a} h = record { ok = h.ended; err = tt; ended = h.mark }
polls_asks {r = Err (refusal.Code c)} h = record { ok = h.ended; err = tt; ended = h.mark }
polls_asks {new} {r = Err (refusal.Memory e)} h = record { ok = tt; err = record { rest = poll_asks new; reached = h.ended }; ended = h.mark }
