-- Laws that rest on others, one above another.
use Rattle.wasi_walks.proofs.Words.{Allows, Ask, AskWrite, Asks, Call, Entry, Give, List, OpId, Step, WasiSocketsCtx, allows_weaker, ℕ}
use Rattle.wasi_walks.proofs.walks.Law.{BeginsWrites, Law, Rests}
use Rattle.wasi_walks.proofs.walks.Moves.{Here}

-- what two say of a tree
pub both : {A : Type 0} (P S : List Entry → OpId → Call → Type 0) (Q R : List Entry → A
    → Type 0) (es : List Entry) (asks : Asks A) → Allows P Q es asks → Allows S R es asks
    → Allows P (λ fs a. R fs a × Q fs a) es asks
both P S Q R es (Give a) h k = (k, h)
both P S Q R es (Ask op c next) h k = (h.0, λ told f. both P S Q R _ (next told) (h.1 told f) (k.1 told f))
both P S Q R es (AskWrite op sock bytes next) h k =
    (h.0, λ told f g. both P S Q R _ (next told) (h.1 told f g) (k.1 told f g))

module _ {contexts : List WasiSocketsCtx} {line : ℕ} {origin : Step} where
  -- a law that rests on less than is there
  abbrev pub over : {B C : List Entry → Here → Type 0} → ((es : List Entry) (h : Here) → C es h → B es h)
      → Rests contexts line origin B → Rests contexts line origin C
  over k a = record { P = a.P; Inv = a.Inv; moves = λ es h now m c i. a.moves es h now m (k es h c) i; asks = λ es h A tree end q c i. a.asks es h A tree end q (k es h c) i }

  -- the two as one, which says of the asks what the upper one does
  abbrev pub layer : {B : List Entry → Here → Type 0} (base : Rests contexts line origin B) → Rests contexts line origin (λ es h. B es h × base.Inv es h) → Rests contexts line origin B
  layer base a = record {
    P = a.P;
    Inv = λ es h. base.Inv es h × a.Inv es h;
    moves = λ es h now m b i. (base.moves es h now m b i.0, a.moves es h now m (b, i.0) i.1);
    asks = λ es h A tree end q b i. both a.P base.P _ _ es tree (a.asks es h A tree end q (b, i.0) i.1) (base.asks es h A tree end q b i.0);
  }

  abbrev pub stand : (base : Law contexts line origin) → Rests contexts line origin base.Inv → Law contexts line origin
  stand base a = layer base (over (λ es h b. b.1) a)

  -- what it keeps, said otherwise
  abbrev pub restate : {B : List Entry → Here → Type 0} (J : List Entry → Here
      → Type 0) (a : Rests contexts line origin B) → ((es : List Entry) (h : Here) → a.Inv es h → J es h)
      → ((es : List Entry) (h : Here) → J es h → a.Inv es h) → Rests contexts line origin B
  restate J a to from = record {
    P = a.P;
    Inv = J;
    moves = λ es h now m b i. to es now (a.moves es h now m b (from es h i));
    asks =
        λ es h A tree end q b i. allows_weaker a.P (λ fs x. a.Inv fs (end x)) (λ fs x. J fs (end x))
        (λ fs x k. to fs (end x) k) es tree (a.asks es h A tree end q b (from es h i));
  }

  -- and of a write that begins in a call of streams
  pub begins_over : {B C : List Entry → Here → Type 0} (k : (es : List Entry) (h : Here) → C es h
      → B es h) (a : Rests contexts line origin B) → BeginsWrites a → BeginsWrites (over k a)
  begins_over k a w = record { begins = λ es h now m c i. w.begins es h now m (k es h c) i }

  pub begins_layer : {B : List Entry → Here
      → Type 0} (base : Rests contexts line origin B)
      (a : Rests contexts line origin (λ es h. B es h × base.Inv es h)) → BeginsWrites base → BeginsWrites a
      → BeginsWrites (layer base a)
  begins_layer base a j k = record { begins = λ es h now m b i. (j.begins es h now m b i.0, k.begins es h now m (b, i.0) i.1) }

  pub begins_stand : (base : Law contexts line origin) (a : Rests contexts line origin base.Inv) → BeginsWrites base
      → BeginsWrites a → BeginsWrites (stand base a)
  begins_stand base a j k = begins_layer base (over (λ es h b. b.1) a) j (begins_over (λ es h b. b.1) a k)
