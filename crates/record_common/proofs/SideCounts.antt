-- Walks in which no network socket is made or closed, and the network sockets of a log that grew.
use Rattle.std.proofs.Common.{◌≡◌, ℕ, ◌+◌, false, List, [], ◌∷◌, ◌++◌, Option, Some, None, option_map, IfSome, Result, Ok, Err, refl, sym, ap, ◌∙◌, arith, append-nil, append_assoc, length}
use Rattle.std.specs.declared.alloc.AllocError.{AllocError}
use Rattle.wasi_addr.specs.declared.code.ErrorCode.{ErrorCode}
use Rattle.wasi_world.specs.declared.call.Call.{Call}
use Rattle.wasi_world.specs.declared.call.Call.TheVariants as call
use Rattle.wasi_world.specs.declared.call.Told.{Told}
use Rattle.wasi_world.specs.declared.call.Entry.{Entry}
use Rattle.wasi_world.specs.declared.call.HandleKind.{HandleKind}
use Rattle.wasi_world.specs.declared.ids.OpId.{OpId}
use Rattle.wasi_world.specs.declared.asks.Verdict.{Verdict}
use Rattle.wasi_world.specs.declared.asks.Verdict.TheVariants as verdict
use Rattle.wasi_world.specs.Typed.{ask_made}
use Rattle.wasi_world.specs.Seen.{Seen, Passes, CountsAll}
use Rattle.wasi_world.specs.Asks.{Asks, Give, Ask, AskWrite, bind, Left, AsksFor}
use Rattle.wasi_world.specs.Operation.{Given, Nothing, Item, Check, Bind, UdpBind, Who, Operation, NothingLast, Front, Goes, Stays, Again, Ends, verdict_front, done_front, front, after, round, polls, poll_asks, End}
use Rattle.record_common.specs.Sides.{Weight, Tally, tally, makes, made_by, closed_by, made_in, closed_in, MakesNone}

-- == calls that neither make nor close a network socket
abbrev pub IsQuiet : Call → Type 0
IsQuiet c = ((t : Told) → makes c t ≡ false) × (closed_by c ≡ None)

-- each ask of the tree is quiet, and this holds of what it gives
abbrev pub Calm : {A : Type 0} → (A → Type 0) → Asks A → Type 0
Calm Q (Give a) = Q a
Calm Q (Ask op call next) = IsQuiet call × ((t : Told) → Calm Q (next t))
Calm Q (AskWrite op sock bytes next) = (t : Told) → Calm Q (next t)

pub calm_then : {A B : Type 0} (R : A → Type 0) (Q : B → Type 0) (asks : Asks A) (f : A → Asks B) → Calm R asks → ((a : A) → R a → Calm Q (f a)) → Calm Q (bind asks f)
unfolding bind
calm_then R Q (Give a) f h k = k a h
calm_then R Q (Ask op call next) f h k = (h.0, λ t. calm_then R Q (next t) f (h.1 t) k)
calm_then R Q (AskWrite op sock bytes next) f h k = λ t. calm_then R Q (next t) f (h t) k

abbrev pub Any : {A : Type 0} → A → Type 0
Any a = Unit {0}

-- nothing was made or closed
pub record NoneMade (es : List Entry) : Type 0 where
  pub made : (w : Weight) → made_in es w ≡ 0
  pub closed : (w : Weight) → closed_in es w ≡ 0

unmade : (w : Weight) (op : OpId) (c : Call) (t : Told) → makes c t ≡ false → made_by op c t w ≡ 0
unmade w op c t h = rw h refl

none_more : (e : Entry) (es : List Entry) → IsQuiet e.call → NoneMade es → NoneMade (e ∷ es)
none_more e es q h = record {
  made = λ w. (let m = unmade w e.op e.call e.answer (q.0 e.answer) in let k = h.made w in omega arith);
  closed = λ w. (let c : tally (closed_by e.call) w ≡ 0 = ap (λ o. tally o w) q.1 in let k = h.closed w in omega arith);
}

write_quiet : (sock : OpId) (n : ℕ) → IsQuiet (call.Write sock n)
write_quiet sock n = (λ t. refl, refl)

pub calm_left : {A : Type 0} (Q : A → Type 0) (asks : Asks A) (es : List Entry) (rest : Asks A) → Calm Q asks → Left asks es rest → NoneMade es
calm_left Q asks [] rest h w = record { made = λ w. refl; closed = λ w. refl }
calm_left Q (Give a) (e ∷ es) rest h w = absurd w
calm_left Q (Ask op call next) (e ∷ es) rest h w = none_more e es (rw w.0.1 h.0) (calm_left Q (next e.answer) es rest (h.1 e.answer) w.1)
calm_left Q (AskWrite op sock bytes next) (e ∷ es) rest h w = none_more e es (rw w.0.1 (write_quiet sock (length bytes))) (calm_left Q (next e.answer) es rest (h e.answer) w.2)

-- == network sockets of a log that grew
pub made_in-append : (w : Weight) (xs ys : List Entry) → made_in (xs ++ ys) w ≡ made_in xs w + made_in ys w
made_in-append w [] ys = omega arith
made_in-append w (x ∷ xs) ys = let h = made_in-append w xs ys in omega arith

pub closed_in-append : (w : Weight) (xs ys : List Entry) → closed_in (xs ++ ys) w ≡ closed_in xs w + closed_in ys w
closed_in-append w [] ys = omega arith
closed_in-append w (x ∷ xs) ys = let h = closed_in-append w xs ys in omega arith

-- the records know the network sockets where those that were made are held besides
pub knows_grown : (old new : Option (List Entry)) (es : List Entry) (a b : Tally) → new ≡ option_map (λ log. log ++ es) old → ((w : Weight) → b w + closed_in es w ≡ a w + made_in es w) → IfSome old (λ log. (w : Weight) → closed_in log w + a w ≡ made_in log w) → IfSome new (λ log. (w : Weight) → closed_in log w + b w ≡ made_in log w)
knows_grown None new es a b e h k = rw e tt
knows_grown (Some log) new es a b e h k = rw e (λ w. let m = made_in-append w log es in let c = closed_in-append w log es in let p = h w in let q = k w in omega arith)

-- what counts for as much, whatever each counts for, is the same network sockets
pub same_tally : {a b : Tally} → ((w : Weight) → a w ≡ b w) → a ≡ b
same_tally h = λ i w. h w i

-- == a bind is calm
abbrev pub IsCalmItem : Item → Type 0
IsCalmItem (Check a usage) = Unit {0}
IsCalmItem (Bind a) = Unit {0}
IsCalmItem (UdpBind a) = Unit {0}
IsCalmItem _ = ⊥

abbrev pub AllCalm : List Item → Type 0
AllCalm [] = Unit {0}
AllCalm (i ∷ items) = IsCalmItem i × AllCalm items

pub record IsCalmOperation (op : Operation) : Type 0 where
  pub items : AllCalm op.left
  pub last : op.who.last ≡ NothingLast

abbrev pub IsCalmFront : Front → Type 0
IsCalmFront (Goes g) = Unit {0}
IsCalmFront (Stays i) = Unit {0}
IsCalmFront (Again i) = ⊥
IsCalmFront (Ends c g) = Unit {0}

pub calm_verdict : (i : Item) (v : Verdict) → IsCalmFront (verdict_front i v)
calm_verdict i verdict.Yes = tt
calm_verdict i verdict.No = tt
calm_verdict i verdict.Pending = tt

calm_done : (r : Result (Unit {0}) ErrorCode) → IsCalmFront (done_front r)
calm_done (Ok d) = tt
calm_done (Err c) = tt

calm_front : (who : Who) (i : Item) → IsCalmItem i → Calm IsCalmFront (front who i)
unfolding bind
calm_front who (Check a usage) h = ((λ t. refl, refl), λ t. calm_verdict (Check a usage) _)
calm_front who (Bind a) h = ((λ t. refl, refl), λ t. calm_done _)
calm_front who (UdpBind a) h = ((λ t. refl, refl), λ t. calm_done _)
calm_front who _ h = absurd h

calm_round : (again : List Item → Asks (End × List Item)) (who : Who) (g : Given) (items : List Item) → who.last ≡ NothingLast → AllCalm items → Calm Any (round again who g items)
calm_round again who g [] l h = tt
calm_round again who g (i ∷ items) l h = calm_then IsCalmFront Any (front who i) _ (calm_front who i h.0) (λ fr k. after_calm fr k (λ given. calm_round again who given items l h.1))
  where
    after_calm : (fr : Front) → IsCalmFront fr → ((given : Given) → Calm Any (round again who given items)) → Calm Any (after again who items (λ given. round again who given items) fr)
    after_calm (Goes given) k f = f given
    after_calm (Stays j) k f = tt
    after_calm (Again j) k f = absurd k
    after_calm (Ends c given) k f = rw l tt

pub calm_poll : (op : Operation) → IsCalmOperation op → Calm Any (poll_asks op)
unfolding polls
calm_poll op h = calm_round (polls 63 op.who) op.who Nothing op.left h.last h.items

calm_any : {A : Type 0} (a : A) → Any a
calm_any a = tt

-- == a mark is calm
pub calm_made : (op : OpId) (h : ℕ) (kind : HandleKind) (parent : Option ℕ) (side : Option OpId) → Calm Any (ask_made op h kind parent side)
calm_made op h kind parent side = ((λ t. refl, refl), λ t. tt)

pub none_calm : {A T : Type 0} {asks : Asks A} {s t : Seen} {view : T → A} → Calm Any asks → (r : Result T AllocError) → AsksFor asks s t view r → MakesNone s t
none_calm {asks = asks} q (Ok x) h = let n = calm_left Any asks h.ok.entries _ q h.ok.left in record { entries = h.ok.entries; log = h.ok.passed.log; made = n.made; closed = n.closed }
none_calm {asks = asks} q (Err d) h = let n = calm_left Any asks h.err.reached.entries h.err.rest q h.err.reached.left in record { entries = h.err.reached.entries; log = h.err.reached.passed.log; made = n.made; closed = n.closed }

none_log : (log : Option (List Entry)) → log ≡ option_map (λ log. log ++ []) log
none_log None = refl
none_log (Some log) = ap Some (sym (append-nil log))

pub none_first : (s : Seen) → MakesNone s s
none_first s = record { entries = []; log = none_log s.log; made = λ w. refl; closed = λ w. refl }

both_logs : (old mid new : Option (List Entry)) (es fs : List Entry) → mid ≡ option_map (λ log. log ++ es) old → new ≡ option_map (λ log. log ++ fs) mid → new ≡ option_map (λ log. log ++ (es ++ fs)) old
both_logs None mid new es fs h k = k ∙ ap (option_map (λ log. log ++ fs)) h
both_logs (Some log) mid new es fs h k = k ∙ (ap (option_map (λ log. log ++ fs)) h ∙ ap Some (append_assoc log es fs))

pub none_then : {s t u : Seen} → MakesNone s t → MakesNone t u → MakesNone s u
none_then {s} {t} {u} h k = record {
  entries = h.entries ++ k.entries;
  log = both_logs s.log t.log u.log h.entries k.entries h.log k.log;
  made = λ w. (let m = h.made w in let n = k.made w in let p = made_in-append w h.entries k.entries in omega arith);
  closed = λ w. (let c = h.closed w in let d = k.closed w in let q = closed_in-append w h.entries k.entries in omega arith);
}

-- == one walk after another
counts_then : (es fs : List Entry) (n k m : ℕ) → CountsAll es n k → CountsAll fs k m → CountsAll (es ++ fs) n m
counts_then [] fs n k m h t = rw h at t
counts_then (e ∷ es) fs n k m h t = (h.0, h.1, counts_then es fs h.0 k m h.2 t)

pub passes_then : {s t u : Seen} {es fs : List Entry} → Passes s es t → Passes t fs u → Passes s (es ++ fs) u
passes_then {s} {t} {u} {es} {fs} h k = record {
  log = both_logs s.log t.log u.log es fs h.log k.log;
  faults = counts_then es fs s.faults t.faults u.faults h.faults k.faults;
  ended = k.ended ∙ h.ended;
  closings = k.closings ∙ h.closings;
  plan = k.plan ∙ h.plan;
}
