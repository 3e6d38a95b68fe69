-- A run beside a recorded log: what its own log says of where they part.
use Rattle.std.specs.Prelude.{slice_get}
use Rattle.std.proofs.Common.{◌≡◌, ℕ, zero, suc, ◌<◌, ◌≤◌, ◌⊎◌, inl, inr, Bool, true, false, get_or, List, [], ◌∷◌, ◌++◌, length, take, drop, Option, Some, None, option_map, unwrap_or, is_some, arith, ap, sym, subst, ◌∙◌, refl}
use Rattle.std.proofs.lemmas.Bool.{false≢true, cases_order}
use Rattle.std.proofs.lemmas.List.{take-append-drop, take_all, length-take-le}
use Rattle.wasi_world.specs.declared.call.Call.{Call}
use Rattle.wasi_world.specs.declared.call.Call.TheVariants as call
use Rattle.wasi_world.specs.declared.call.Told.{Told}
use Rattle.wasi_world.specs.declared.call.Told.TheVariants as told
use Rattle.wasi_world.specs.declared.call.Entry.{Entry}
use Rattle.wasi_world.specs.Asks.{Asks, Give, Ask, AskWrite, Left, IsFront}
use Rattle.wasi_world.specs.Fits.{Fits}
use Rattle.wasi_replay.specs.Replayed as replayed
use Rattle.wasi_replay.specs.Replayed.{TookOthers, taken}
use Rattle.wasi_recorder.specs.Replays.{IsNoWrite, Parts, DiffersAt, WritesByBytes}

-- == a walk in two parts
pub record Parted {A : Type 0} (asks : Asks A) (front back : List Entry) (rest : Asks A) : Type 0 where
  pub mid : Asks A
  pub before : Left asks front mid
  pub after : Left mid back rest

pub parted : {A : Type 0} (asks : Asks A) (front back : List Entry) (rest : Asks A) → Left asks (front ++ back) rest → Parted asks front back rest
parted asks [] back rest h = record { mid = asks; before = refl; after = h }
parted (Give a) (e ∷ es) back rest h = absurd h
parted (Ask op called next) (e ∷ es) back rest h = let later = parted (next e.answer) es back rest h.1 in record { mid = later.mid; before = (h.0, later.before); after = later.after }
parted (AskWrite op sock bytes next) (e ∷ es) back rest h = let later = parted (next e.answer) es back rest h.2 in record { mid = later.mid; before = (h.0, h.1, later.before); after = later.after }

-- == answers that took bytes
some_is : {A : Type 0} (a b : A) → Some a ≡ Some b → a ≡ b
some_is a b h = ap (λ o. unwrap_or o a) h

-- only a write takes bytes
took_none : (c : Call) (t : Told) → IsNoWrite c → Fits c t → taken t ≡ None
took_none c (told.Took bytes) plain fits = absurd (by_call c plain fits) where
  by_call : (c : Call) → IsNoWrite c → Fits c (told.Took bytes) → ⊥
  by_call (call.Write sock n) plain fits = plain
  by_call (call.Check _ _ _) plain fits = fits
  by_call (call.Lookup _) plain fits = fits
  by_call (call.TcpCreate _ _) plain fits = fits
  by_call (call.UdpCreate _ _) plain fits = fits
  by_call (call.UdpWritable _) plain fits = fits
  by_call (call.Local _) plain fits = fits
  by_call (call.Peer _) plain fits = fits
  by_call (call.Bind _ _) plain fits = fits
  by_call (call.UdpBind _ _) plain fits = fits
  by_call (call.UdpConnect _ _) plain fits = fits
  by_call (call.Listen _ _) plain fits = fits
  by_call (call.SetBacklog _ _) plain fits = fits
  by_call (call.Connect _ _) plain fits = fits
  by_call (call.Accept _) plain fits = fits
  by_call (call.Hand _ _) plain fits = fits
  by_call (call.Refuse _ _) plain fits = fits
  by_call (call.Read _ _) plain fits = fits
  by_call (call.ReadReady _) plain fits = fits
  by_call (call.WriteReady _) plain fits = fits
  by_call (call.Shutdown _ _) plain fits = fits
  by_call (call.UdpDisconnect _) plain fits = fits
  by_call (call.Send _ _ _) plain fits = fits
  by_call (call.Recv _) plain fits = fits
  by_call (call.GetOption _ _) plain fits = fits
  by_call (call.SetOption _ _ _) plain fits = fits
  by_call (call.Close _) plain fits = fits
  by_call (call.Made _ _ _ _) plain fits = fits
took_none c told.Pending plain fits = refl
took_none c told.Done plain fits = refl
took_none c told.Yes plain fits = refl
took_none c told.No plain fits = refl
took_none c (told.Code _) plain fits = refl
took_none c (told.Addr _) plain fits = refl
took_none c (told.Arrived _) plain fits = refl
took_none c (told.Bytes _) plain fits = refl
took_none c (told.Datagram _ _) plain fits = refl
took_none c (told.Value _) plain fits = refl
took_none c (told.Names _) plain fits = refl

-- of one call no two answers took as many bytes and others, unless it is a write
no_others : (c : Call) (recorded now : Told) → IsNoWrite c → Fits c recorded → Fits c now → TookOthers recorded now → ⊥
no_others c recorded now plain fits fits_now others = others.others (took_none c now plain fits_now ∙ sym (took_none c recorded plain fits))

-- what is taken stands first
taken_front : (t : Told) (bytes b : List ℕ) → IsFront t bytes → taken t ≡ Some b → b ≡ take (length b) bytes
taken_front (told.Took x) bytes b front is = let P : List ℕ → Type 0 = λ y. y ≡ take (length y) bytes in subst P (some_is x b is) front
taken_front told.Pending bytes b front is = absurd (false≢true (ap is_some is))
taken_front told.Done bytes b front is = absurd (false≢true (ap is_some is))
taken_front told.Yes bytes b front is = absurd (false≢true (ap is_some is))
taken_front told.No bytes b front is = absurd (false≢true (ap is_some is))
taken_front (told.Code _) bytes b front is = absurd (false≢true (ap is_some is))
taken_front (told.Addr _) bytes b front is = absurd (false≢true (ap is_some is))
taken_front (told.Arrived _) bytes b front is = absurd (false≢true (ap is_some is))
taken_front (told.Bytes _) bytes b front is = absurd (false≢true (ap is_some is))
taken_front (told.Datagram _ _) bytes b front is = absurd (false≢true (ap is_some is))
taken_front (told.Value _) bytes b front is = absurd (false≢true (ap is_some is))
taken_front (told.Names _) bytes b front is = absurd (false≢true (ap is_some is))

-- as many bytes that stand first are the same
same_front : (recorded now : Told) (bytes : List ℕ) → IsFront recorded bytes → IsFront now bytes → TookOthers recorded now → ⊥
same_front recorded now bytes front front_now others = by_both (taken recorded) (taken now) refl refl others.as_many others.others where
  by_both : (o p : Option (List ℕ)) → taken recorded ≡ o → taken now ≡ p → option_map length p ≡ option_map length o → (p ≡ o → ⊥) → ⊥
  by_both None None is is_now many other = other refl
  by_both None (Some n) is is_now many other = false≢true (sym (ap is_some many))
  by_both (Some r) None is is_now many other = false≢true (ap is_some many)
  by_both (Some r) (Some n) is is_now many other =
      other (ap (λ x. Some x) (taken_front now bytes n front_now is_now ∙ (ap (λ k. take k bytes) (some_is (length n) (length r) many) ∙ sym (taken_front recorded bytes r front is))))

-- == where they part
-- the next ask isn't what is recorded
parts_at : {A : Type 0} (rest end : Asks A) (e : Entry) (es rs : List Entry) → Left rest (e ∷ es) end → ((r : Entry) (more : List Entry) → rs ≡ r ∷ more → e.op ≡ r.op → e.call ≡ r.call → TookOthers r.answer e.answer) → Parts rest rs
parts_at (Give a) end e es rs h other = absurd h
parts_at (Ask op called next) end e es [] h other = tt
parts_at (Ask op called next) end e es (r ∷ rs) h other = λ plain is. no_others called r.answer e.answer plain is.2 h.0.2 (other r rs refl (h.0.0 ∙ sym is.0) (h.0.1 ∙ sym is.1))
parts_at (AskWrite op sock bytes next) end e es [] h other = tt
parts_at (AskWrite op sock bytes next) end e es (r ∷ rs) h other = λ is front. same_front r.answer e.answer bytes front h.1 (other r rs refl (h.0.0 ∙ sym is.0) (h.0.1 ∙ sym is.1))

-- what stands at a place
pub record Place (xs : List Entry) (i : ℕ) : Type 0 where
  pub e : Entry
  pub more : List Entry
  pub dropped : drop i xs ≡ e ∷ more
  pub at : slice_get xs i ≡ Some e

place : (xs : List Entry) (i : ℕ) → i < length xs → Place xs i
place [] i l = absurd (omega (arith, l))
place (x ∷ xs) zero l = record { e = x; more = xs; dropped = refl; at = refl }
place (x ∷ xs) (suc i) l = let later = place xs i (omega (arith, l)) in record { e = later.e; more = later.more; dropped = later.dropped; at = later.at }

abbrev is_cons : List Entry → Bool
is_cons [] = false
is_cons (x ∷ xs) = true

dropped_head : (xs : List Entry) (i : ℕ) (r : Entry) (rs : List Entry) → drop i xs ≡ r ∷ rs → slice_get xs i ≡ Some r
dropped_head [] zero r rs h = absurd (false≢true (ap is_cons h))
dropped_head [] (suc i) r rs h = absurd (false≢true (ap is_cons h))
dropped_head (x ∷ xs) zero r rs h = ap (λ y. Some y) (ap (λ l. get_or l 0 x) h)
dropped_head (x ∷ xs) (suc i) r rs h = dropped_head xs i r rs h

-- the own log differs there: so does the run
pub run_differs : {A : Type 0} (asks end : Asks A) (recorded log : List Entry) (i : ℕ) → Left asks log end → replayed.DiffersAt recorded log i → DiffersAt asks recorded i
run_differs asks end recorded log i h differs =
    let whole : List Entry → Type 0 = λ l. Left asks l end in
    let two = parted asks (take i log) (drop i log) end (subst whole (sym (take-append-drop i log)) h) in
    let here = place log i differs.within in
    record {
      rest = two.mid;
      inside = differs.inside;
      same = let P : List Entry → Type 0 = λ l. Left asks l two.mid in subst P differs.same two.before;
      parts = parts_at two.mid end here.e here.more (drop i recorded) (let Q : List Entry → Type 0 = λ l. Left two.mid l end in subst Q here.dropped two.after) (λ r rs is. differs.other here.e r here.at (dropped_head recorded i r rs is));
    }

parts_ended : {A : Type 0} (a : A) (xs : List Entry) (i : ℕ) → i < length xs → Parts (Give a) (drop i xs)
parts_ended a [] i l = absurd (omega (arith, l))
parts_ended a (x ∷ xs) zero l = tt
parts_ended a (x ∷ xs) (suc i) l = parts_ended a xs i (omega (arith, l))

-- the run ended and more is recorded
pub run_ended : {A : Type 0} (asks : Asks A) (a : A) (recorded log : List Entry) → Left asks log (Give a) → log ≡ take (length log) recorded → length log < length recorded → DiffersAt asks recorded (length log)
run_ended asks a recorded log h same fewer = record {
  rest = Give a;
  inside = omega (arith, fewer);
  same = let P : List Entry → Type 0 = λ l. Left asks l (Give a) in subst P same h;
  parts = parts_ended a recorded (length log) fewer;
}

-- the run asked all that is recorded
pub run_same : {A : Type 0} (asks : Asks A) (a : A) (recorded log : List Entry) → Left asks log (Give a) → log ≡ take (length log) recorded → length recorded ≤ length log → Left asks recorded (Give a)
run_same asks a recorded log h same all = let P : List Entry → Type 0 = λ l. Left asks l (Give a) in subst P (same ∙ take_all (length log) recorded all) h

-- == a run that asks what is recorded differs nowhere
left_once : {A : Type 0} (asks one other : Asks A) (es : List Entry) → Left asks es one → Left asks es other → one ≡ other
left_once asks one other [] h k = sym h ∙ k
left_once (Give a) one other (e ∷ es) h k = absurd h
left_once (Ask op called next) one other (e ∷ es) h k = left_once (next e.answer) one other es h.1 k.1
left_once (AskWrite op sock bytes next) one other (e ∷ es) h k = left_once (next e.answer) one other es h.2 k.2

writes_left : {A : Type 0} (asks rest : Asks A) (es : List Entry) → WritesByBytes asks → Left asks es rest → WritesByBytes rest
writes_left asks rest [] w h = subst WritesByBytes h w
writes_left (Give a) rest (e ∷ es) w h = absurd h
writes_left (Ask op called next) rest (e ∷ es) w h = writes_left (next e.answer) rest es (w.1 e.answer) h.1
writes_left (AskWrite op sock bytes next) rest (e ∷ es) w h = writes_left (next e.answer) rest es (w e.answer) h.2

no_part : {A : Type 0} (rest end : Asks A) (e : Entry) (es fs : List Entry) → WritesByBytes rest → Left rest (e ∷ es) end → Parts rest (e ∷ fs) → ⊥
no_part (Give a) end e es fs w h p = h
no_part (Ask op called next) end e es fs w h p = p w.0 h.0
no_part (AskWrite op sock bytes next) end e es fs w h p = p h.0 h.1

is_given : {A : Type 0} → Asks A → Bool
is_given (Give a) = true
is_given _ = false

no_part_all : {A : Type 0} (rest : Asks A) (a : A) (es : List Entry) → WritesByBytes rest → Left rest es (Give a) → Parts rest es → ⊥
unfolding is_given
no_part_all (Give b) a [] w h p = p
no_part_all (Ask op called next) a [] w h p = absurd (false≢true (ap is_given h))
no_part_all (AskWrite op sock bytes next) a [] w h p = absurd (false≢true (ap is_given h))
no_part_all rest a (e ∷ es) w h p = no_part rest (Give a) e es es w h p

pub not_both : {A : Type 0} (asks : Asks A) (a : A) (recorded : List Entry) (i : ℕ) → WritesByBytes asks → Left asks recorded (Give a) → DiffersAt asks recorded i → ⊥
not_both {A} asks a recorded i w h differs =
    let whole : List Entry → Type 0 = λ l. Left asks l (Give a) in
    let two = parted asks (take i recorded) (drop i recorded) (Give a) (subst whole (sym (take-append-drop i recorded)) h) in
    let there = left_once asks two.mid differs.rest (take i recorded) two.before differs.same in
    let Q : Asks A → Type 0 = λ m. Left m (drop i recorded) (Give a) in
    no_part_all differs.rest a (drop i recorded) (writes_left asks differs.rest (take i recorded) w differs.same) (subst Q there two.after) differs.parts

-- a run that differs does so at one place
take_take : (i j : ℕ) (xs : List Entry) → i ≤ j → take i (take j xs) ≡ take i xs
take_take zero j xs l = refl
take_take (suc i) zero xs l = absurd (omega (arith, l))
take_take (suc i) (suc j) [] l = refl
take_take (suc i) (suc j) (x ∷ xs) l = ap (λ ys. x ∷ ys) (take_take i j xs (omega (arith, l)))

get_take : (xs : List Entry) (i j : ℕ) → i < j → slice_get (take j xs) i ≡ slice_get xs i
get_take xs i zero l = absurd (omega (arith, l))
get_take [] i (suc j) l = refl
get_take (x ∷ xs) zero (suc j) l = refl
get_take (x ∷ xs) (suc i) (suc j) l = get_take xs i j (omega (arith, l))

not_later : {A : Type 0} (asks : Asks A) (recorded : List Entry) (i j : ℕ) → WritesByBytes asks → DiffersAt asks recorded i → DiffersAt asks recorded j → i < j → ⊥
not_later {A} asks recorded i j w one other l =
    let here = place recorded i (omega (arith, l, other.inside)) in
    let front = take j recorded in
    let again = place front i (omega (arith, l, length-take-le j recorded other.inside)) in
    let same : again.e ≡ here.e = some_is again.e here.e (sym again.at ∙ (get_take recorded i j l ∙ here.at)) in
    let whole : List Entry → Type 0 = λ xs. Left asks xs other.rest in
    let two = parted asks (take i front) (drop i front) other.rest (subst whole (sym (take-append-drop i front)) other.same) in
    let Before : List Entry → Type 0 = λ xs. Left asks xs two.mid in
    let there = left_once asks two.mid one.rest (take i recorded) (subst Before (take_take i j recorded (omega (arith, l))) two.before) one.same in
    let Q : Asks A → Type 0 = λ m. Left m (drop i front) other.rest in
    let R : List Entry → Type 0 = λ xs. Left one.rest xs other.rest in
    let S : Entry → Type 0 = λ e. Left one.rest (e ∷ again.more) other.rest in
    let T : List Entry → Type 0 = λ xs. Parts one.rest xs in
    no_part one.rest other.rest here.e again.more here.more (writes_left asks one.rest (take i recorded) w one.same) (subst S same (subst R again.dropped (subst Q there two.after))) (subst T here.dropped one.parts)

pub once : {A : Type 0} (asks : Asks A) (recorded : List Entry) (i j : ℕ) → WritesByBytes asks → DiffersAt asks recorded i → DiffersAt asks recorded j → i ≡ j
once asks recorded i j w one other = by_order (cases_order i j) where
  by_order : (i ≡ j) ⊎ ((i < j) ⊎ (j < i)) → i ≡ j
  by_order (inl same) = same
  by_order (inr (inl before)) = absurd (not_later asks recorded i j w one other before)
  by_order (inr (inr after)) = absurd (not_later asks recorded j i w other one after)
