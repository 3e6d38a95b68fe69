-- Logs in order: no check of ours comes after our first bind, listen, connect or datagram.
use Rattle.wasi_world.specs.declared.call.Call.TheVariants as call
use Rattle.wasi_laws.proofs.Words.{◌≡◌, inl, inr, ℕ, Bool, true, false, if◌then◌else◌, List, [], ◌∷◌, ◌++◌, refl, sym, ap, subst, ◌∙◌, append_assoc, ⊤, OpId, Call, Entry, is_same, GoesOut, IsCheck, ChecksNone, ChecksFirst, HasGone, asked_by}
use Rattle.wasi_laws.proofs.asks.Fronts.{is_calm}

module _ (ours : OpId → Bool) where
  -- 1 once one of ours went out
  abbrev pub out_by : Bool → ℕ → ℕ
  out_by true g = 1
  out_by false g = g

  abbrev pub gone_after : ℕ → OpId → Call → ℕ
  gone_after g op (call.Bind sock addr) = out_by (ours op) g
  gone_after g op (call.Listen sock backlog) = out_by (ours op) g
  gone_after g op (call.Connect sock addr) = out_by (ours op) g
  gone_after g op (call.UdpBind sock addr) = out_by (ours op) g
  gone_after g op (call.UdpConnect sock addr) = out_by (ours op) g
  gone_after g op (call.Send sock addr bytes) = out_by (ours op) g
  gone_after g op _ = g

  -- a check of ours comes before
  abbrev pub May : ℕ → OpId → Call → Type 0
  May g op (call.Check ctx addr usage) = ours op ≡ true → g ≡ 0
  May g op _ = ⊤

  -- how many are out after these entries: one, or none
  abbrev pub gone_along : ℕ → List Entry → ℕ
  gone_along g [] = g
  gone_along g (e ∷ es) = gone_along (gone_after g e.op e.call) es

  abbrev pub Asked : List Entry → OpId → Call → Type 0
  Asked es op c = May (gone_along 0 es) op c

  pub gone_push : (g : ℕ) (es : List Entry) (e : Entry) → gone_along g (es ++ e ∷ []) ≡ gone_after (gone_along g es) e.op e.call
  gone_push g [] e = refl
  gone_push g (x ∷ es) e = gone_push (gone_after g x.op x.call) es e

  -- a calm call changes nothing
  pub calm_may : (g : ℕ) (op : OpId) (c : Call) → is_calm c ≡ true → May g op c × (gone_after g op c ≡ g)
  calm_may g op (call.Check ctx addr usage) e = absurd (cc)
  calm_may g op (call.Bind sock addr) e = absurd (cc)
  calm_may g op (call.Listen sock backlog) e = absurd (cc)
  calm_may g op (call.Connect sock addr) e = absurd (cc)
  calm_may g op (call.UdpBind sock addr) e = absurd (cc)
  calm_may g op (call.UdpConnect sock addr) e = absurd (cc)
  calm_may g op (call.Send sock addr bytes) e = absurd (cc)
  calm_may g op _ e = (tt, refl)

  pub out_may : (g : ℕ) (op : OpId) (c : Call) → GoesOut c → May g op c × (gone_after g op c ≡ out_by (ours op) g)
  out_may g op (call.Bind sock addr) h = (tt, refl)
  out_may g op (call.Listen sock backlog) h = (tt, refl)
  out_may g op (call.Connect sock addr) h = (tt, refl)
  out_may g op (call.UdpBind sock addr) h = (tt, refl)
  out_may g op (call.UdpConnect sock addr) h = (tt, refl)
  out_may g op (call.Send sock addr bytes) h = (tt, refl)
  out_may g op _ h = absurd h

  -- == along a log
  -- each entry may come there
  abbrev pub Ordered : ℕ → List Entry → Type 0
  Ordered g [] = ⊤
  Ordered g (e ∷ es) = May g e.op e.call × Ordered (gone_after g e.op e.call) es

  ordered : (done todo log : List Entry) → log ≡ done ++ todo → ((before : List Entry) (e : Entry) (after : List Entry) → log ≡ before ++ e ∷ after → Asked before e.op e.call) → Ordered (gone_along 0 done) todo
  ordered done [] log c h = tt
  ordered done (e ∷ todo) log c h =
      (h done e todo c, subst (λ (g : ℕ). Ordered g todo) (gone_push 0 done e) (ordered (done ++ e ∷ []) todo log (c ∙ sym (append_assoc done (e ∷ []) todo)) h))

  -- our entries, in order
  abbrev pub asked : List Entry → List Entry
  asked [] = []
  asked (e ∷ es) = if ours e.op then e ∷ asked es else asked es

  -- what is out stays out
  out_out : (b : Bool) → out_by b 1 ≡ 1
  out_out true = refl
  out_out false = refl

  still_gone : (op : OpId) (c : Call) → gone_after 1 op c ≡ 1
  still_gone op (call.Bind sock addr) = out_out (ours op)
  still_gone op (call.Listen sock backlog) = out_out (ours op)
  still_gone op (call.Connect sock addr) = out_out (ours op)
  still_gone op (call.UdpBind sock addr) = out_out (ours op)
  still_gone op (call.UdpConnect sock addr) = out_out (ours op)
  still_gone op (call.Send sock addr bytes) = out_out (ours op)
  still_gone op _ = refl

  now_gone : (g : ℕ) (op : OpId) (c : Call) → ours op ≡ true → GoesOut c → gone_after g op c ≡ 1
  now_gone g op c e h = (out_may g op c h).1 ∙ ap (λ b. out_by b g) e

  no_check : (op : OpId) (c : Call) → ours op ≡ true → May 1 op c → IsCheck c → ⊥
  no_check op (call.Check ctx addr usage) e h k = let z = h e in absurd (cc)
  no_check op _ e h k = absurd k

  -- by whether an entry is ours
  by_ours : (P : List Entry → Type 0) (e : Entry) (es : List Entry) → (ours e.op ≡ true → P (e ∷ asked es)) → P (asked es) → P (asked (e ∷ es))
  by_ours P e es mine other = by_test (ours e.op) mine
    where
      by_test : (b : Bool) → (b ≡ true → P (e ∷ asked es)) → (let all : List Entry = if b then e ∷ asked es else asked es in P all)
      by_test true now = now refl
      by_test false now = other

  -- no check of ours comes after
  none_after : (es : List Entry) → Ordered 1 es → ChecksNone (asked es)
  none_after [] h = tt
  none_after (e ∷ es) h = let later = none_after es (subst (λ (g : ℕ). Ordered g es) (still_gone e.op e.call) h.1) in by_ours ChecksNone e es (λ p. (no_check e.op e.call p h.0, later)) later

  first_asked : (g : ℕ) (es : List Entry) → Ordered g es → ChecksFirst (asked es)
  first_asked g [] h = tt
  first_asked g (e ∷ es) h = let later = first_asked (gone_after g e.op e.call) es h.1 in by_ours ChecksFirst e es (λ p. (λ out. none_after es (subst (λ (n : ℕ). Ordered n es) (now_gone g e.op e.call p out) h.1), later)) later

  -- a log of which each entry may come there
  pub asked_first : (log : List Entry) → ((before : List Entry) (e : Entry) (after : List Entry) → log ≡ before ++ e ∷ after → Asked before e.op e.call) → ChecksFirst (asked log)
  asked_first log h = first_asked 0 log (ordered [] log log refl h)

  stays_gone : (es : List Entry) → gone_along 1 es ≡ 1
  stays_gone [] = refl
  stays_gone (e ∷ es) = ap (λ (g : ℕ). gone_along g es) (still_gone e.op e.call) ∙ stays_gone es

  -- where all are ours
  pub gone_out : ((op : OpId) → ours op ≡ true) → (g : ℕ) (es : List Entry) → HasGone es → gone_along g es ≡ 1
  gone_out all g [] h = absurd h
  gone_out all g (e ∷ es) (inl h) = ap (λ (n : ℕ). gone_along n es) (now_gone g e.op e.call (all e.op) h) ∙ stays_gone es
  gone_out all g (e ∷ es) (inr h) = gone_out all (gone_after g e.op e.call) es h

-- all are ours, or those of one name
pub asked_all : (es : List Entry) → asked (λ op. true) es ≡ es
asked_all [] = refl
asked_all (e ∷ es) = ap (λ (more : List Entry). e ∷ more) (asked_all es)

pub asked_one : (it : OpId) (es : List Entry) → asked (λ op. is_same op it) es ≡ asked_by it es
asked_one it [] = refl
asked_one it (e ∷ es) = ap (λ (more : List Entry). let all : List Entry = if is_same e.op it then e ∷ more else more in all) (asked_one it es)
