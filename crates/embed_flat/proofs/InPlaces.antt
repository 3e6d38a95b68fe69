-- The lists that calls give lie in their places.
use Rattle.std.specs.Prelude.{ℕ, zero, suc, ◌≡◌, ◌≤◌, ◌<◌, ◌+◌, ◌*◌, ◌/◌, ◌%◌, ◌==◌, ◌&&◌, ◌||◌, ◌⊎◌, Bool, true, false, nat_le, List, [], ◌∷◌, ◌++◌, length, take, drop, flat_map}
use Rattle.std.proofs.Common.{refl, sym, ap, ◌∙◌, arith, inl, inr, get_or, subst}
use Rattle.std.proofs.lemmas.Bool.{leb-true, ne_eqb}
use Rattle.std.proofs.lemmas.List.{append-nil, take_all}
use borrow.Rule.Slice.PartMut.{put_mid}
use Rattle.wasi_steps.specs.declared.reply.Field.{Field}
use Rattle.embed_flat.specs.declared.shape.Shape.{Shape}
use Rattle.embed_flat.specs.declared.shape.Shape.TheVariants as shape
use Rattle.embed_flat.specs.declared.results.Lists.{Lists}
use Rattle.embed_flat.specs.Abi.{Value, U8, U32, AList, bytes_of, with_lists, after_each, padding}
use Rattle.embed_flat.specs.Answers.{HasRoom, list_fits}
use Rattle.embed_flat.specs.Fields.{number_in, number_of, numbers_in, address_in, data_in, datagrams_in, bytes_in}
use Rattle.embed_flat.specs.Memory.{put, low_bytes}
use Rattle.embed_flat.proofs.Puts.{put-put}
use Rattle.embed_flat.specs.Wit.{ip_socket_address, incoming_datagram}

-- == room
and_parts : (a b : Bool) → (a && b) ≡ true → (a ≡ true) × (b ≡ true)
and_parts true b e = (refl, e)
and_parts false b e = cc

or_cases : (a b : Bool) → (a || b) ≡ true → (a ≡ true) ⊎ (b ≡ true)
or_cases true b e = inl refl
or_cases false b e = inr e

within : (place room n len : ℕ) → place + room ≤ len → n ≤ room → place + n ≤ len
within place room n len h k = omega arith

four_within : (place room n len : ℕ) → place + room ≤ len → n ≤ room / 4 → place + 4 * n ≤ len
four_within place room n len h k = omega arith

pub list_room : (s : Shape) (fields : List Field) (memory : List ℕ) (lists : Lists) → list_fits s fields memory lists ≡ true → HasRoom s fields lists.place memory
list_room shape.Datagrams fields memory lists e =
    let parts = and_parts (nat_le (lists.place + lists.room) (length memory)) ((number_in fields 0 == 0) || nat_le (40 + length (data_in (drop 1 fields))) lists.room) e in
    elim (or_cases (number_in fields 0 == 0) (nat_le (40 + length (data_in (drop 1 fields))) lists.room) parts.1) [
      | inl none ↦ inl none
      | inr some ↦ inr (within lists.place lists.room (40 + length (data_in (drop 1 fields))) (length memory) (leb-true _ _ parts.0) (leb-true _ _ some))
    ]
list_room shape.StreamBytes fields memory lists e =
    let parts = and_parts (nat_le (lists.place + lists.room) (length memory)) (nat_le (length (bytes_in fields 0)) lists.room) e in
    within lists.place lists.room (length (bytes_in fields 0)) (length memory) (leb-true _ _ parts.0) (leb-true _ _ parts.1)
list_room shape.Places fields memory lists e =
    let parts = and_parts (nat_le (lists.place + lists.room) (length memory)) (nat_le (length fields) (lists.room / 4)) e in
    four_within lists.place lists.room (length fields) (length memory) (leb-true _ _ parts.0) (leb-true _ _ parts.1)
list_room _ fields memory lists e = tt

-- == numbers in a list
same_each : (f : ℕ → List ℕ → List ℕ) → ((n : ℕ) (m : List ℕ) → f n m ≡ m) → (ns memory : List ℕ) → after_each f ns memory ≡ memory
same_each f same [] memory = refl
same_each f same (n ∷ ns) memory = ap (after_each f ns) (same n memory) ∙ same_each f same ns memory

small : (n : ℕ) → n < 256 → n % 256 ≡ n
small n h = omega arith

-- bytes lie as they are
bytes_flat : (bytes : List ℕ) → ((k : ℕ) → get_or bytes k 0 < 256) → flat_map (bytes_of U8) bytes ≡ bytes
bytes_flat [] fits = refl
bytes_flat (b ∷ bytes) fits = let rest = bytes_flat bytes (λ k. fits (suc k)) in let here = small b (fits 0) in rw (here, rest) refl

pub bytes_stored : (memory bytes : List ℕ) (place : ℕ) → ((k : ℕ) → get_or bytes k 0 < 256) → put memory place bytes ≡ with_lists (AList U8) (place, bytes) memory
bytes_stored memory bytes place fits =
    ap (put memory place) (sym (bytes_flat bytes fits)) ∙ sym (same_each (with_lists U8) (λ n m. refl) bytes (put memory place (flat_map (bytes_of U8) bytes)))

-- the bytes of the first numbers
abbrev pub first_places : List Field → ℕ → List ℕ
first_places fields k = flat_map (bytes_of U32) (numbers_in (take k fields))

pub places_more : (fields : List Field) (k : ℕ) → k < length fields → first_places fields (suc k) ≡ first_places fields k ++ low_bytes 4 (number_in fields k)
places_more [] k h = absurd (omega arith)
places_more (f ∷ fields) zero h = refl
places_more (f ∷ fields) (suc k) h = let below : k < length fields = omega arith in ap (λ xs. low_bytes 4 (number_of f) ++ xs) (places_more fields k below)

pub length-places : (fields : List Field) (k : ℕ) → k ≤ length fields → length (first_places fields k) ≡ 4 * k
length-places fields zero h = refl
length-places [] (suc k) h = absurd (omega arith)
length-places (f ∷ fields) (suc k) h =
    let below : k ≤ length fields = omega arith in let rest = length-places fields k below in
    let more : 4 * suc k ≡ 4 + 4 * k = omega arith in ap (λ n. suc (suc (suc (suc n)))) rest ∙ (let four : suc (suc (suc (suc (4 * k)))) ≡ 4 * suc k = omega arith in four)

pub places_stored : (memory : List ℕ) (fields : List Field) (place k : ℕ) → length fields ≤ k → put memory place (first_places fields k) ≡ with_lists (AList U32) (place, numbers_in fields) memory
places_stored memory fields place k h =
    ap (λ fs. put memory place (flat_map (bytes_of U32) (numbers_in fs))) (take_all k fields h)
    ∙ sym (same_each (with_lists U32) (λ n m. refl) (numbers_in fields) (put memory place (flat_map (bytes_of U32) (numbers_in fields))))

-- one number more
pub places_step : (memory next : List ℕ) (fields : List Field) (place k : ℕ) → k < length fields → place ≤ length memory
    → next ≡ put (put memory place (first_places fields k)) (place + 4 * k) (low_bytes 4 (number_in fields k))
    → next ≡ put memory place (first_places fields (k + 1))
places_step memory next fields place k h inside e =
    let below : k ≤ length fields = omega arith in
    let more : suc k ≡ k + 1 = omega arith in
    e ∙ (put-put memory (first_places fields k) (low_bytes 4 (number_in fields k)) place (place + 4 * k) inside (ap (λ n. place + n) (sym (length-places fields k below)))
    ∙ (ap (put memory place) (sym (places_more fields k h)) ∙ ap (λ n. put memory place (first_places fields n)) more))

-- == a datagram
datagram_own : (place : ℕ) (bytes : List ℕ) (v : Value ip_socket_address)
    → bytes_of incoming_datagram ((place, bytes), (v, tt)) ≡ (low_bytes 4 place ++ low_bytes 4 (length bytes)) ++ bytes_of ip_socket_address v
datagram_own place bytes v =
    ap (λ xs. (low_bytes 4 place ++ low_bytes 4 (length bytes)) ++ xs) (append-nil (bytes_of ip_socket_address v ++ []) ∙ append-nil (bytes_of ip_socket_address v))

-- the block of a datagram: its list of bytes, and then who sent it
pub datagram_block : (place len : ℕ) (bytes part : List ℕ) (v : Value ip_socket_address) → len ≡ length bytes → part ≡ bytes_of ip_socket_address v
    → put_mid 8 32 (put (put (padding 40) 0 (low_bytes 4 place)) 4 (low_bytes 4 len)) part ≡ bytes_of incoming_datagram ((place, bytes), (v, tt))
datagram_block place len bytes part v l e =
    ap (λ n. (low_bytes 4 place ++ low_bytes 4 n) ++ (part ++ [])) l
    ∙ (ap (λ xs. (low_bytes 4 place ++ low_bytes 4 (length bytes)) ++ xs) (append-nil part ∙ e) ∙ sym (datagram_own place bytes v))

none_came : (fields : List Field) (place : ℕ) → (number_in fields 0 ≡ 0 → ⊥)
    → datagrams_in fields place ≡ ((place + 40, data_in (drop 1 fields)), (address_in (drop 1 fields), tt)) ∷ []
none_came fields place ne = rw (ne_eqb (number_in fields 0) 0 ne) refl

-- an address has no list
address_lists : (v : Value ip_socket_address) (memory : List ℕ) → with_lists ip_socket_address v memory ≡ memory
address_lists (zero, v) memory = refl
address_lists (suc zero, v) memory = refl
address_lists (suc (suc k), v) memory = absurd v

pub datagram_stored : (memory one bytes : List ℕ) (fields : List Field) (place : ℕ) → (number_in fields 0 ≡ 0 → ⊥)
    → one ≡ bytes_of incoming_datagram ((place + 40, data_in (drop 1 fields)), (address_in (drop 1 fields), tt)) → bytes ≡ data_in (drop 1 fields)
    → ((k : ℕ) → get_or bytes k 0 < 256)
    → put (put memory place one) (place + 40) bytes ≡ with_lists (AList incoming_datagram) (place, datagrams_in fields place) memory
datagram_stored memory one bytes fields place ne e d fits =
    let rest = data_in (drop 1 fields) in
    let sender = address_in (drop 1 fields) in
    let own = bytes_of incoming_datagram ((place + 40, rest), (sender, tt)) in
    let AllFit : List ℕ → Type 0 = λ xs. (k : ℕ) → get_or xs k 0 < 256 in
    let behind : put (put memory place own) (place + 40) rest ≡ with_lists (AList U8) (place + 40, rest) (put memory place own) =
    bytes_stored (put memory place own) rest (place + 40) (subst AllFit d fits) in
    let padded : with_lists (AList U8) (place + 40, rest) (put memory place own) ≡ with_lists (AList U8) (place + 40, rest) (put memory place (own ++ [])) =
    ap (λ xs. with_lists (AList U8) (place + 40, rest) (put memory place xs)) (sym (append-nil own)) in
    let whole : with_lists (AList U8) (place + 40, rest) (put memory place (own ++ [])) ≡ with_lists (AList incoming_datagram) (place, ((place + 40, rest), (sender, tt)) ∷ []) memory =
    sym (address_lists sender (with_lists (AList U8) (place + 40, rest) (put memory place (own ++ [])))) in
    ap (λ o. put (put memory place o) (place + 40) bytes) e
    ∙ (ap (λ x. put (put memory place own) (place + 40) x) d
    ∙ (behind ∙ (padded ∙ (whole ∙ ap (λ ds. with_lists (AList incoming_datagram) (place, ds) memory) (sym (none_came fields place ne))))))
