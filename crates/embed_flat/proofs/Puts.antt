-- Bytes that are put in their places.
use Rattle.std.specs.Int.{bytes_low_first, byte_at}
use Rattle.std.proofs.Common.{ℕ, zero, suc, ◌≡◌, ◌≤◌, ◌+◌, ◌*◌, List, [], ◌∷◌, ◌++◌, length, take, drop, ap, refl, arith, ◌∙◌, sym, append_assoc}
use Rattle.std.proofs.lemmas.List.{take-append-drop, drop-drop, length-append, length-take-le, take_at, drop_at}
use borrow.Rule.Slice.PartMut.{put_mid}
use Rattle.wasi_steps.specs.declared.reply.Field.{Field}
use Rattle.embed_flat.specs.Fields.{number_in, bytes_one_by_one, segments_one_by_one}
use Rattle.embed_flat.specs.Memory.{put, low_bytes}

pub length-low_bytes : (i w n : ℕ) → length (bytes_low_first i w n) ≡ w
length-low_bytes i zero n = refl
length-low_bytes i (suc w) n = ap suc (length-low_bytes (suc i) w n)

-- the lowest bytes are the first of more of them
pub take-low_bytes : (i w k n : ℕ) → w ≤ k → take w (bytes_low_first i k n) ≡ bytes_low_first i w n
take-low_bytes i zero k n h = refl
take-low_bytes i (suc w) zero n h = absurd (omega arith)
take-low_bytes i (suc w) (suc k) n h = ap (λ xs. byte_at i n ∷ xs) (take-low_bytes (suc i) w k n (omega arith))

-- what a write of a part gives
pub put-part : (memory bytes part : List ℕ) (at k : ℕ) → part ≡ bytes → k ≡ length bytes → put_mid at k memory part ≡ put memory at bytes
put-part memory bytes part at k e l = rw (e, l) refl

pub put-nil : (memory : List ℕ) (at : ℕ) → put memory at [] ≡ memory
put-nil memory at = take-append-drop at memory

-- bytes that are put right behind others
pub put-put : (memory xs ys : List ℕ) (at n : ℕ) → at ≤ length memory → n ≡ at + length xs → put (put memory at xs) n ys ≡ put memory at (xs ++ ys)
put-put memory xs ys at n h e =
    let front = take at memory in
    let back = drop (length xs) (drop at memory) in
    let far : length (front ++ xs) ≡ n = length-append front xs ∙ (ap (λ k. k + length xs) (length-take-le at memory h) ∙ sym e) in
    let regroup : put memory at xs ≡ (front ++ xs) ++ back = sym (append_assoc front xs back) in
    let taken : take n (put memory at xs) ≡ front ++ xs = ap (take n) regroup ∙ take_at (front ++ xs) back n far in
    let dropped : drop n (put memory at xs) ≡ back = ap (drop n) regroup ∙ drop_at (front ++ xs) back n far in
    let behind : drop (length ys) back ≡ drop (length (xs ++ ys)) (drop at memory) =
    drop-drop (length ys) (length xs) (drop at memory) ∙ ap (λ k. drop k (drop at memory)) (sym (length-append xs ys)) in
    rw (taken, dropped, behind, append_assoc front xs, ← append_assoc xs ys) refl

pub length-bytes : (fields : List Field) (first k : ℕ) → length (bytes_one_by_one fields first k) ≡ k
length-bytes fields first zero = refl
length-bytes fields first (suc k) = length-append (bytes_one_by_one fields first k) (low_bytes 1 (number_in fields (first + k))) ∙ (ap (λ n. n + 1) (length-bytes fields first k) ∙ omega arith)

pub length-segments : (fields : List Field) (first k : ℕ) → length (segments_one_by_one fields first k) ≡ 2 * k
length-segments fields first zero = refl
length-segments fields first (suc k) = length-append (segments_one_by_one fields first k) (low_bytes 2 (number_in fields (first + k))) ∙ (ap (λ n. n + 2) (length-segments fields first k) ∙ omega arith)

-- one byte more, and one segment
pub bytes_more : (fields : List Field) (block next : List ℕ) (at first k : ℕ) → at ≤ length block
    → next ≡ put (put block at (bytes_one_by_one fields first k)) (at + k) (low_bytes 1 (number_in fields (first + k)))
    → next ≡ put block at (bytes_one_by_one fields first (k + 1))
bytes_more fields block next at first k h e =
    let more : k + 1 ≡ suc k = omega arith in
    rw (e, more) (put-put block _ _ at (at + k) h (ap (λ n. at + n) (sym (length-bytes fields first k))))

pub segments_more : (fields : List Field) (block next : List ℕ) (at first k : ℕ) → at ≤ length block
    → next ≡ put (put block at (segments_one_by_one fields first k)) (at + 2 * k) (low_bytes 2 (number_in fields (first + k)))
    → next ≡ put block at (segments_one_by_one fields first (k + 1))
segments_more fields block next at first k h e =
    let more : k + 1 ≡ suc k = omega arith in
    rw (e, more) (put-put block _ _ at (at + 2 * k) h (ap (λ n. at + n) (sym (length-segments fields first k))))
