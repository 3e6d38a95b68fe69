-- Lists of calls that stand beside others: which are in one, and whether one is a datagram of a socket.
use Rattle.std.specs.Prelude.{◌≡◌, ◌⊎◌, ℕ, zero, suc, ◌==◌, ◌||◌, Bool, true, false, not, List, [], ◌∷◌, Option, Some, None, slice_set, position, if◌then◌else◌, refl}
use Rattle.std.proofs.Common.{ap, eqb-true, inl, inr, subst, sym, ◌∙◌}
use Rattle.wasi_world.specs.Operation.{End, Item, Operation, Waits, Done, Refused}
use Rattle.record_common.specs.Binding.{left_of}
use Rattle.host_store.specs.declared.beside.Beside.{Beside}
use Rattle.host_store.specs.declared.beside.BesideCall.{BesideCall}
use Rattle.host_store.specs.Beside.{beside_as, beside_in, beside_put, beside_with, beside_without}
use Rattle.host_store.specs.Beside.{has_datagram, is_datagram_of}
use Rattle.wasi_walks.specs.Licence.{Has}
use Rattle.wasi_walks.proofs.Lists.{has_split}
use Rattle.wasi_walks.proofs.walks.Moves.{datagram_begun, datagram_polled}

-- == datagrams of a socket
none_first : (a b : Bool) → a || b ≡ false → (a ≡ false) × (b ≡ false)
none_first true b e = absurd (cc)
none_first false b e = (refl, e)

pub none_of_it : (calls : List Beside) (place : ℕ) (b : Beside) → has_datagram calls place ≡ false → Has calls b → is_datagram_of place b.call ≡ false
none_of_it [] place b e h = absurd h
none_of_it (x ∷ calls) place b e (inl is) = subst (λ (y : Beside). is_datagram_of place y.call ≡ false) is (none_first (is_datagram_of place x.call) (has_datagram calls place) e).0
none_of_it (x ∷ calls) place b e (inr h) = none_of_it calls place b (none_first (is_datagram_of place x.call) (has_datagram calls place) e).1 h

neither : (a b : Bool) → a ≡ false → b ≡ false → a || b ≡ false
neither true b e f = absurd (cc)
neither false b e f = f

pub none_has : (calls : List Beside) (place : ℕ) → ((b : Beside) → Has calls b → is_datagram_of place b.call ≡ false) → has_datagram calls place ≡ false
none_has [] place k = refl
none_has (x ∷ calls) place k = neither (is_datagram_of place x.call) (has_datagram calls place) (k x (inl refl)) (none_has calls place (λ b h. k b (inr h)))

-- == what is in a list
-- the first call of a number
pub found_beside : (calls : List Beside) (n : ℕ) (b : Beside) → beside_in calls n ≡ Some b → Has calls b × (b.line ≡ n)
found_beside [] n b e = absurd (cc)
found_beside (x ∷ calls) n b e = by_line (x.line == n) refl e (found_beside calls n b)
  where
    by_line : (same : Bool) → (x.line == n) ≡ same → (if same then Some x else beside_in calls n) ≡ Some b → (beside_in calls n ≡ Some b → Has calls b × (b.line ≡ n)) → Has (x ∷ calls) b × (b.line ≡ n)
    by_line true s q more = let its : x ≡ b = cc in (inl its, sym (ap (λ (y : Beside). y.line) its) ∙ eqb-true x.line n s)
    by_line false s q more = let k = more q in (inr k.0, k.1)

-- one fewer
pub has_kept : (calls : List Beside) (n : ℕ) (b : Beside) → Has (beside_without calls n) b → Has calls b
has_kept [] n b h = h
has_kept (x ∷ calls) n b h = by_line (not (x.line == n)) (has_kept calls n b) h
  where
    by_line : (stays : Bool) → (Has (beside_without calls n) b → Has calls b) → Has (if stays then x ∷ beside_without calls n else beside_without calls n) b → Has (x ∷ calls) b
    by_line true more (inl is) = inl is
    by_line true more (inr k) = inr (more k)
    by_line false more k = inr (more k)

-- one in the place of another
has_set : (calls : List Beside) (i : ℕ) (now b : Beside) → Has (slice_set calls i now) b → Has calls b ⊎ (now ≡ b)
has_set [] i now b h = inl h
has_set (x ∷ calls) zero now b (inl is) = inr is
has_set (x ∷ calls) zero now b (inr k) = inl (inr k)
has_set (x ∷ calls) (suc i) now b (inl is) = inl (inl is)
has_set (x ∷ calls) (suc i) now b (inr k) = elim (has_set calls i now b k) [ inl was ↦ inl (inr was) | inr is ↦ inr is ]

pub has_with : (calls : List Beside) (n : ℕ) (call : BesideCall) (b : Beside) → Has (beside_with calls n call) b → Has calls b ⊎ (beside_as n call ≡ b)
has_with calls n call b h = by_place (position (λ x. x.line == n) calls) h
  where
    by_place : (o : Option ℕ) → Has (beside_put calls n call o) b → Has calls b ⊎ (beside_as n call ≡ b)
    by_place None k = inl k
    by_place (Some i) k = has_set calls i (beside_as n call) b k

-- == once a datagram was polled
-- what is there was, or is what is left of that
pub has_begun : (calls : List Beside) (line : ℕ) (call : Operation → BesideCall) (op : Operation) (ended : End × List Item) (b : Beside) → Has (datagram_begun calls line call op ended) b
    → Has calls b ⊎ ((ended.0 ≡ Waits) × (beside_as line (call (left_of op ended.1)) ≡ b))
has_begun calls line call op (Waits, items) b h = elim (has_split calls (beside_as line (call (left_of op items))) b h) [ inl was ↦ inl was | inr is ↦ inr (refl, is) ]
has_begun calls line call op (Done given, items) b h = inl h
has_begun calls line call op (Refused c given, items) b h = inl h

pub has_polled : (calls : List Beside) (n : ℕ) (call : Operation → BesideCall) (op : Operation) (ended : End × List Item) (b : Beside) → Has (datagram_polled calls n call op ended) b
    → Has calls b ⊎ ((ended.0 ≡ Waits) × (beside_as n (call (left_of op ended.1)) ≡ b))
has_polled calls n call op (Waits, items) b h = elim (has_with calls n (call (left_of op items)) b h) [ inl was ↦ inl was | inr is ↦ inr (refl, is) ]
has_polled calls n call op (Done given, items) b h = inl (has_kept calls n b h)
has_polled calls n call op (Refused c given, items) b h = inl (has_kept calls n b h)
