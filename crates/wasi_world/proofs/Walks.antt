-- Walks of one tree of asks after another.
use Rattle.std.specs.Prelude.{◌≡◌, ℕ, List, [], ◌∷◌, ◌++◌, Option, Some, None, Result, Ok, Err, option_map, refl, IsErrAnd, IsOkAnd, IfOk, OnErr}
use Rattle.std.specs.declared.alloc.AllocError.{AllocError}
use Rattle.std.proofs.Common.{append-nil, append_assoc, ap, sym, subst, ◌∙◌}
use Rattle.wasi_world.specs.declared.call.Entry.{Entry}
use Rattle.wasi_world.specs.declared.ids.OpId.{OpId}
use Rattle.wasi_world.specs.declared.call.Call.{Call}
use Rattle.wasi_world.specs.declared.call.Told.{Told}
use Rattle.wasi_addr.specs.declared.code.ErrorCode.{ErrorCode}
use Rattle.wasi_world.specs.declared.outcome.Refusal.{Refusal}
use Rattle.wasi_world.specs.declared.outcome.Refusal.TheVariants.{Code, Memory}
use Rattle.wasi_world.specs.Seen.{Seen, CountsAll, Passes}
use Rattle.wasi_world.specs.Asks.{Asks, Give, Ask, AskWrite, bind, one, one_write, Left, Reaches, Started, AsksFor, outcome}

-- of walks
pub left_then : {A : Type 0} (asks mid rest : Asks A) (es fs : List Entry) → Left asks es mid → Left mid fs rest → Left asks (es ++ fs) rest
left_then asks mid rest [] fs h k = let P : Asks _ → Type 0 = λ t. Left t fs rest in subst P (sym h) k
left_then (Give x) mid rest (e ∷ es) fs h k = absurd h
left_then (Ask op call next) mid rest (e ∷ es) fs h k = (h.0, left_then (next e.answer) mid rest es fs h.1 k)
left_then (AskWrite op sock bytes next) mid rest (e ∷ es) fs h k = (h.0, h.1, left_then (next e.answer) mid rest es fs h.2 k)

pub left_in : {A B : Type 0} (f : A → Asks B) (asks rest : Asks A) (es : List Entry) → Left asks es rest → Left (bind asks f) es (bind rest f)
unfolding bind
left_in f asks rest [] h = ap (λ t. bind t f) h
left_in f (Give x) rest (e ∷ es) h = absurd h
left_in f (Ask op call next) rest (e ∷ es) h = (h.0, left_in f (next e.answer) rest es h.1)
left_in f (AskWrite op sock bytes next) rest (e ∷ es) h = (h.0, h.1, left_in f (next e.answer) rest es h.2)

-- of what is known
log_again : (old mid new : Option (List Entry)) (es fs : List Entry) → mid ≡ option_map (λ log. log ++ es) old → new ≡ option_map (λ log. log ++ fs) mid → new ≡ option_map (λ log. log ++ (es ++ fs)) old
log_again None mid new es fs h k = k ∙ ap (option_map (λ log. log ++ fs)) h
log_again (Some log) mid new es fs h k = k ∙ (ap (option_map (λ log. log ++ fs)) h ∙ ap Some (append_assoc log es fs))

log_none : (old : Option (List Entry)) → old ≡ option_map (λ log. log ++ []) old
log_none None = refl
log_none (Some log) = ap Some (sym (append-nil log))

counts_again : (es fs : List Entry) (n k m : ℕ) → CountsAll es n k → CountsAll fs k m → CountsAll (es ++ fs) n m
counts_again [] fs n k m h t = rw h at t
counts_again (e ∷ es) fs n k m h t = (h.0, h.1, counts_again es fs h.0 k m h.2 t)

passes_again : {old mid new : Seen} {es fs : List Entry} → Passes old es mid → Passes mid fs new → Passes old (es ++ fs) new
passes_again {old} {mid} {new} {es} {fs} h k = record {
  log = log_again old.log mid.log new.log es fs h.log k.log;
  faults = counts_again es fs old.faults mid.faults new.faults h.faults k.faults;
  ended = k.ended ∙ h.ended;
  closings = k.closings ∙ h.closings;
  plan = k.plan ∙ h.plan;
}

-- nothing was asked yet
pub reaches_all : {A : Type 0} (asks : Asks A) (old : Seen) → Reaches asks asks old old
reaches_all asks old = record { entries = []; passed = record { log = log_none old.log; faults = refl; ended = refl; closings = refl; plan = refl }; left = refl }

-- one after the other
pub reaches_then : {A : Type 0} {asks mid rest : Asks A} {s t u : Seen} → Reaches asks mid s t → Reaches mid rest t u → Reaches asks rest s u
reaches_then {asks} {mid} {rest} h k = record { entries = h.entries ++ k.entries; passed = passes_again h.passed k.passed; left = left_then asks mid rest h.entries k.entries h.left k.left }

-- under what follows
pub reaches_in : {A B : Type 0} {asks rest : Asks A} (f : A → Asks B) {s t : Seen} → Reaches asks rest s t → Reaches (bind asks f) (bind rest f) s t
reaches_in {asks} {rest} f h = record { entries = h.entries; passed = h.passed; left = left_in f asks rest h.entries h.left }

-- to what follows
pub reaches_on : {A B : Type 0} {asks : Asks A} {a : A} (f : A → Asks B) {s t : Seen} → Reaches asks (Give a) s t → Reaches (bind asks f) (f a) s t
unfolding bind
reaches_on f h = reaches_in f h

-- the same, where it is said of running out of memory
pub err_in : {A B T : Type 0} (asks rest : Asks A) (f : A → Asks B) (s t : Seen) (r : Result T AllocError) → OnErr r (Reaches asks rest s t) → OnErr r (Reaches (bind asks f) (bind rest f) s t)
err_in asks rest f s t (Ok x) h = tt
err_in asks rest f s t (Err d) h = reaches_in f h

-- == an AsksFor of what was reached
pub asks_ok : {A T : Type 0} {asks : Asks A} {s t : Seen} {view : T → A} {x : T} → Reaches asks (Give (view x)) s t → AsksFor asks s t view (Ok x)
asks_ok h = record { ok = h; err = tt; ended = h.passed.ended }

-- out of memory, with the rest of the asks
pub asks_err : {A T : Type 0} {asks : Asks A} (rest : Asks A) {s t : Seen} {view : T → A} {d : AllocError} → Reaches asks rest s t → AsksFor asks s t view (Err d)
asks_err rest h = record { ok = tt; err = record { rest = rest; reached = h }; ended = h.passed.ended }

-- one call, whose answer is seen as another type
left_typed : {B : Type 0} (f : Told → B) (op : OpId) (call : Call) (es : List Entry) (told : Told) → Left (one op call) es (Give told) → Left (Ask op call (λ t. Give (f t))) es (Give (f told))
unfolding bind
left_typed f op call es told h = left_in (λ t. Give (f t)) (one op call) (Give told) es h

left_typed_write : {B : Type 0} (f : Told → B) (op sock : OpId) (bytes : List ℕ) (es : List Entry) (told : Told) → Left (one_write op sock bytes) es (Give told) → Left (AskWrite op sock bytes (λ t. Give (f t))) es (Give (f told))
unfolding bind
left_typed_write f op sock bytes es told h = left_in (λ t. Give (f t)) (one_write op sock bytes) (Give told) es h

pub asks_typed : {B : Type 0} (f : Told → B) {op : OpId} {call : Call} {s t : Seen} {told : Told} {b : B} → Reaches (one op call) (Give told) s t → b ≡ f told → AsksFor (Ask op call (λ x. Give (f x))) s t (λ x. x) (Ok b)
asks_typed f {op} {call} {told} h e = record { ok = record { entries = h.entries; passed = h.passed; left = rw e (left_typed f op call h.entries told h.left) }; err = tt; ended = h.passed.ended }

pub asks_typed_write : {B : Type 0} (f : Told → B) {op sock : OpId} {bytes : List ℕ} {s t : Seen} {told : Told} {b : B} → Reaches (one_write op sock bytes) (Give told) s t → b ≡ f told → AsksFor (AskWrite op sock bytes (λ x. Give (f x))) s t (λ x. x) (Ok b)
asks_typed_write f {op} {sock} {bytes} {told} h e = record { ok = record { entries = h.entries; passed = h.passed; left = rw e (left_typed_write f op sock bytes h.entries told h.left) }; err = tt; ended = h.passed.ended }

pub same_end : {s t : Seen} → t ≡ s → t.ended ≡ s.ended
same_end e = ap (λ (x : Seen). x.ended) e

-- out of memory before the first ask
pub asks_none : {A T : Type 0} (Q : AllocError → Type 0) (asks : Asks A) {s t : Seen} {view : T → A} {r : Result T AllocError} → IsErrAnd r Q → t ≡ s → AsksFor asks s t view r
asks_none Q asks {s} {t} {r = Ok x} h e = absurd h
asks_none Q asks {s} {t} {r = Err d} h e = record { ok = tt; err = record { rest = asks; reached = rw e (reaches_all asks s) }; ended = same_end e }

-- after the first the others, whose result is the call's
pub asks_then : {A B T : Type 0} {asks : Asks A} (f : A → Asks B) {s t u : Seen} {view : T → B} {r : Result T AllocError} {a : A} → Reaches asks (Give a) s t → AsksFor (f a) t u view r → AsksFor (bind asks f) s u view r
asks_then f {r = Ok x} h k = record { ok = reaches_then (reaches_on f h) k.ok; err = tt; ended = k.ended ∙ h.passed.ended }
asks_then f {r = Err d} h k = record { ok = tt; err = record { rest = k.err.rest; reached = reaches_then (reaches_on f h) k.err.reached }; ended = k.ended ∙ h.passed.ended }

-- the exit of a `?`
pub asks_exit : {A B T : Type 0} (Q : AllocError → Type 0) {asks : Asks A} (f : A → Asks B) {s t : Seen} {view : T → B} {r : Result T AllocError} → IsErrAnd r Q → Started asks s t → AsksFor (bind asks f) s t view r
asks_exit Q f {r = Ok x} e h = absurd e
asks_exit Q f {r = Err d} e h = record { ok = tt; err = record { rest = bind h.rest f; reached = reaches_in f h.reached }; ended = h.reached.passed.ended }

-- after the first no others, and this is the result
pub asks_end : {A B T : Type 0} {asks : Asks A} (f : A → Asks B) {s t : Seen} {view : T → B} {x : T} {a : A} → Reaches asks (Give a) s t → f a ≡ Give (view x) → AsksFor (bind asks f) s t view (Ok x)
asks_end {asks} f {s} {t} h e = record { ok = let P : Asks _ → Type 0 = λ rest. Reaches (bind asks f) rest s t in subst P e (reaches_on f h); err = tt; ended = h.passed.ended }

-- == of calls that may be refused: a code is an answer, running out of memory isn't
outcome_memory : {T : Type 0} {d : AllocError} (r : Result T Refusal) → IsErrAnd r (λ x. x ≡ Memory d) → outcome r ≡ Err d
outcome_memory (Ok x) h = absurd h
outcome_memory (Err x) h = ap (λ (y : Refusal). outcome (Err y)) h

-- out of memory before the first ask
pub refused_none : {A T : Type 0} {asks : Asks A} {s t : Seen} {view : Result T ErrorCode → A} {d : AllocError} (r : Result T Refusal) → IsErrAnd r (λ x. x ≡ Memory d) → t ≡ s → AsksFor asks s t view (outcome r)
refused_none {asks} {s} {t} r h e = rw (outcome_memory r h) (record { ok = tt; err = record { rest = asks; reached = rw e (reaches_all asks s) }; ended = same_end e })

-- the exit of a `?`
pub refused_exit : {A B T : Type 0} {asks : Asks A} (f : A → Asks B) {s t : Seen} {view : Result T ErrorCode → B} {d : AllocError} (r : Result T Refusal) → IsErrAnd r (λ x. x ≡ Memory d) → Started asks s t → AsksFor (bind asks f) s t view (outcome r)
refused_exit {asks} f r h k = rw (outcome_memory r h) (record { ok = tt; err = record { rest = bind k.rest f; reached = reaches_in f k.reached }; ended = k.reached.passed.ended })

-- after the first ask no others, and this is the result
pub refused_end : {A B T : Type 0} {asks : Asks A} (f : A → Asks B) {s t : Seen} {view : Result T ErrorCode → B} {x : Result T ErrorCode} (r : Result T Refusal) {a : A} → Reaches asks (Give a) s t → outcome r ≡ Ok x → f a ≡ Give (view x) → AsksFor (bind asks f) s t view (outcome r)
refused_end f r h e k = rw e (asks_end f h k)

-- a refusal that is passed on by a `?`
pub refused_on : {A B T U : Type 0} {asks : Asks A} (f : A → Asks B) {s t : Seen} {view : Result T ErrorCode → A} {shown : Result U ErrorCode → B} (x : Refusal) (r : Result U Refusal) → IsErrAnd r (λ y. y ≡ x) → AsksFor asks s t view (outcome {T = T} (Err x)) → ((c : ErrorCode) → f (view (Err c)) ≡ Give (shown (Err c))) → AsksFor (bind asks f) s t shown (outcome r)
refused_on f x (Ok y) h k e = absurd h
refused_on {asks} f {s} {t} {view} {shown} (Code c) (Err y) h k e =
    let P : Refusal → Type 0 = λ z. AsksFor (bind asks f) s t shown (outcome (Err z)) in subst P (sym h) (asks_end f k.ok (e c))
refused_on {asks} f {s} {t} {view} {shown} (Memory d) (Err y) h k e =
    let P : Refusal → Type 0 = λ z. AsksFor (bind asks f) s t shown (outcome (Err z)) in
    subst P (sym h) (record { ok = tt; err = record { rest = bind k.err.rest f; reached = reaches_in f k.err.reached }; ended = k.ended })

-- nothing is asked, and this is the result
pub asks_given : {A T : Type 0} {asks : Asks A} {s : Seen} {view : T → A} (x : T) (r : Result T AllocError) → r ≡ Ok x → asks ≡ Give (view x) → AsksFor asks s s view r
asks_given {A} {asks} {s} {view} x r h e = rw (h, e) (record { ok = reaches_all (Give (view x)) s; err = tt; ended = refl })

-- a tree that is chosen by a value
pub asks_at : {A T D : Type 0} (f : D → Asks A) {d e : D} {s t : Seen} {view : T → A} {r : Result T AllocError} → d ≡ e → AsksFor (f e) s t view r → AsksFor (f d) s t view r
asks_at f h k = rw h k

-- what a call gives is made into something else
pub asks_gives : {A B T : Type 0} {asks : Asks A} (g : A → B) {s t : Seen} {view : T → A} {r : Result T AllocError} → AsksFor asks s t view r → AsksFor (bind asks (λ a. Give (g a))) s t (λ x. g (view x)) r
asks_gives g {r = Ok x} h = record { ok = reaches_on _ h.ok; err = tt; ended = h.ended }
asks_gives g {r = Err d} h = record { ok = tt; err = record { rest = bind h.err.rest (λ a. Give (g a)); reached = reaches_in _ h.err.reached }; ended = h.ended }

-- an answer is made of what a call gave, which may run out of memory
pub asks_answered : {M T R : Type 0} {asks : Asks (T × M)} (g : T → R) {s t : Seen} {m : M} (o : Result T AllocError) (r : Result R AllocError) → AsksFor {A = T × M} asks s t (λ x. (x, m)) o → IfOk r (λ reply. IsOkAnd o (λ x. reply ≡ g x)) → AsksFor {A = R × M} (bind asks (λ done. Give (g done.0, done.1))) s t (λ reply. (reply, m)) r
asks_answered g {m} (Ok x) (Ok reply) h e = asks_end _ h.ok (ap (λ (y : _). Give (y, m)) (sym e))
asks_answered g (Err d) (Ok reply) h e = absurd e
asks_answered g {m} (Ok x) (Err d) h e = record { ok = tt; err = record { rest = Give (g x, m); reached = reaches_on _ h.ok }; ended = h.ended }
asks_answered g (Err d) (Err f) h e = record { ok = tt; err = record { rest = bind h.err.rest (λ done. Give (g done.0, done.1)); reached = reaches_in _ h.err.reached }; ended = h.ended }

-- the same where nothing is asked
pub given_answered : {M X R : Type 0} (g : X → R) {s : Seen} {m : M} (x : X) (o : Result X AllocError) (r : Result R AllocError) → o ≡ Ok x → IfOk r (λ reply. IsOkAnd o (λ y. reply ≡ g y)) → AsksFor {A = R × M} (Give (g x, m)) s s (λ reply. (reply, m)) r
given_answered {X = X} g {s} {m} x o (Ok reply) e h =
    let P : Result X AllocError → Type 0 = λ z. IsOkAnd z (λ (y : X). reply ≡ g y) in
    let k : reply ≡ g x = subst P e h in
    record { ok = rw k (reaches_all (Give (g x, m)) s); err = tt; ended = refl }
given_answered g {s} {m} x o (Err d) e h = record { ok = tt; err = record { rest = Give (g x, m); reached = reaches_all (Give (g x, m)) s }; ended = refl }
