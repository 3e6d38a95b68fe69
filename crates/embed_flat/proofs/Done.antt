-- The blocks of what calls give are the bytes of its values.
use Rattle.std.specs.Prelude.{ℕ, ◌≡◌, ◌==◌, Bool, true, false, if◌then◌else◌, nat_lt, List, [], ◌∷◌, ◌++◌, length, take}
use Rattle.std.proofs.Common.{refl, sym, ap, ◌∙◌, ◌≤◌, arith}
use Rattle.std.proofs.lemmas.Bool.{ne_eqb}
use Rattle.std.proofs.lemmas.List.{append-nil, length-map, take-take, take_at}
use borrow.Rule.Slice.PartMut.{put_mid}
use Rattle.wasi_steps.specs.declared.reply.Field.{Field}
use Rattle.embed_flat.specs.Abi.{Value, Truth, U8, U32, U64, AList, bytes_of, padding}
use Rattle.embed_flat.specs.Fields.{number_in, number_of, numbers_in, ipv4_in, ipv6_in, address_in, found_in, words_in, datagrams_in, bytes_one_by_one, segments_one_by_one}
use Rattle.embed_flat.specs.Memory.{put, low_bytes}
use Rattle.embed_flat.specs.Wit.{outcome, option, pair, triple, error_code, stream_error, ip_address, ip_socket_address, incoming_datagram}

abbrev empty : List ℕ
empty = padding 40

-- == numbers
truth_byte : (b : Bool) → take 2 (put empty 1 (low_bytes 1 (if b then 1 else 0))) ≡ bytes_of (outcome Truth error_code) (0, b)
truth_byte true = refl
truth_byte false = refl

pub truth_bytes : (n : ℕ) → take 2 (put empty 1 (low_bytes 1 (if nat_lt 0 n then 1 else 0))) ≡ bytes_of (outcome Truth error_code) (0, nat_lt 0 n)
truth_bytes n = truth_byte (nat_lt 0 n)

pub byte_bytes : (n : ℕ) → take 2 (put empty 1 (low_bytes 1 n)) ≡ bytes_of (outcome U8 error_code) (0, n)
byte_bytes n = refl

pub wide_bytes : (n : ℕ) → take 16 (put empty 8 (low_bytes 8 n)) ≡ bytes_of (outcome U64 error_code) (0, n)
wide_bytes n = refl

pub stream_wide_bytes : (n : ℕ) → take 16 (put empty 8 (low_bytes 8 n)) ≡ bytes_of (outcome U64 stream_error) (0, n)
stream_wide_bytes n = refl

pub word_bytes : (block : List ℕ) (fields : List Field) → take 16 block ≡ bytes_of (outcome triple error_code) (0, words_in fields)
    → take 8 block ≡ bytes_of (outcome U32 error_code) (0, number_in fields 0)
word_bytes block fields e = let below : 8 ≤ 16 = omega arith in sym (take-take 8 16 block below) ∙ ap (take 8) e

pub pair_bytes : (block : List ℕ) (fields : List Field) → take 16 block ≡ bytes_of (outcome triple error_code) (0, words_in fields)
    → take 12 block ≡ bytes_of (outcome pair error_code) (0, (number_in fields 0, (number_in fields 1, tt)))
pair_bytes block fields e = let below : 12 ≤ 16 = omega arith in sym (take-take 12 16 block below) ∙ ap (take 12) e

-- == addresses
address_four : (fields : List Field) → number_in fields 0 ≡ 4 → address_in fields ≡ (0, (number_in fields 5, (ipv4_in fields 1, tt)))
address_four fields e = ap (λ n. if n == 4 then (let v : Value ip_socket_address = (0, (number_in fields 5, (ipv4_in fields 1, tt))) in v)
    else (1, (number_in fields 9, (number_in fields 10, (ipv6_in fields 1, (number_in fields 11, tt)))))) e

by_test : {A : Type 0} (b : Bool) (x y : A) → b ≡ false → (if b then x else y) ≡ y
by_test b x y e = rw e refl

address_six : (fields : List Field) → (number_in fields 0 ≡ 4 → ⊥) → address_in fields ≡ (1, (number_in fields 9, (number_in fields 10, (ipv6_in fields 1, (number_in fields 11, tt)))))
address_six fields ne = by_test (number_in fields 0 == 4) _ _ (ne_eqb (number_in fields 0) 4 ne)

ipv4_bytes : (fields : List Field) → take 32 (put (put empty 4 (low_bytes 2 (number_in fields 5))) 6 (bytes_one_by_one fields 1 4))
    ≡ bytes_of ip_socket_address (0, (number_in fields 5, (ipv4_in fields 1, tt)))
ipv4_bytes fields = refl

pub ipv4_block : (fields : List Field) (first second : List ℕ) (port : ℕ) → number_in fields 0 ≡ 4 → port ≡ number_in fields 5
    → first ≡ put empty 4 (low_bytes 2 port) → second ≡ put first 6 (bytes_one_by_one fields 1 4)
    → take 32 second ≡ bytes_of ip_socket_address (address_in fields)
ipv4_block fields first second port four p e1 e2 =
    let step : take 32 second ≡ bytes_of ip_socket_address (0, (number_in fields 5, (ipv4_in fields 1, tt))) = rw (e2, e1, p) (ipv4_bytes fields) in
    step ∙ ap (bytes_of ip_socket_address) (sym (address_four fields four))

ipv6_bytes : (fields : List Field) → take 32 (put (put (put (put (put empty 0 (low_bytes 1 1)) 4 (low_bytes 2 (number_in fields 9))) 8 (low_bytes 4 (number_in fields 10)))
    12 (segments_one_by_one fields 1 8)) 28 (low_bytes 4 (number_in fields 11)))
    ≡ bytes_of ip_socket_address (1, (number_in fields 9, (number_in fields 10, (ipv6_in fields 1, (number_in fields 11, tt)))))
ipv6_bytes fields = refl

pub ipv6_block : (fields : List Field) (b1 b2 b3 b4 b5 : List ℕ) (port flow scope : ℕ) → (number_in fields 0 ≡ 4 → ⊥) → port ≡ number_in fields 9 → flow ≡ number_in fields 10
    → scope ≡ number_in fields 11 → b1 ≡ put empty 0 (low_bytes 1 1) → b2 ≡ put b1 4 (low_bytes 2 port) → b3 ≡ put b2 8 (low_bytes 4 flow)
    → b4 ≡ put b3 12 (segments_one_by_one fields 1 8) → b5 ≡ put b4 28 (low_bytes 4 scope) → take 32 b5 ≡ bytes_of ip_socket_address (address_in fields)
ipv6_block fields b1 b2 b3 b4 b5 port flow scope six p f s e1 e2 e3 e4 e5 =
    let step : take 32 b5 ≡ bytes_of ip_socket_address (1, (number_in fields 9, (number_in fields 10, (ipv6_in fields 1, (number_in fields 11, tt))))) =
    rw (e5, e4, e3, e2, e1, p, f, s) (ipv6_bytes fields) in
    step ∙ ap (bytes_of ip_socket_address) (sym (address_six fields six))

found_four : (fields : List Field) → number_in fields 0 ≡ 4 → found_in fields ≡ (1, (0, ipv4_in fields 1))
found_four fields e = ap (λ n. if n == 4 then (let v : Value (option ip_address) = (1, (0, ipv4_in fields 1)) in v) else if n == 6 then (1, (1, ipv6_in fields 1)) else (0, tt)) e

found_six : (fields : List Field) → number_in fields 0 ≡ 6 → found_in fields ≡ (1, (1, ipv6_in fields 1))
found_six fields e = ap (λ n. if n == 4 then (let v : Value (option ip_address) = (1, (0, ipv4_in fields 1)) in v) else if n == 6 then (1, (1, ipv6_in fields 1)) else (0, tt)) e

found_four_bytes : (fields : List Field) → take 22 (put (put empty 2 (low_bytes 1 1)) 6 (bytes_one_by_one fields 1 4)) ≡ bytes_of (outcome (option ip_address) error_code) (0, (1, (0, ipv4_in fields 1)))
found_four_bytes fields = refl

found_six_bytes : (fields : List Field) → take 22 (put (put (put empty 2 (low_bytes 1 1)) 4 (low_bytes 1 1)) 6 (segments_one_by_one fields 1 8))
    ≡ bytes_of (outcome (option ip_address) error_code) (0, (1, (1, ipv6_in fields 1)))
found_six_bytes fields = refl

abbrev found_bytes : Value (option ip_address) → List ℕ
found_bytes v = bytes_of (outcome (option ip_address) error_code) (0, v)

pub found_four_block : (fields : List Field) (b1 b2 : List ℕ) → number_in fields 0 ≡ 4 → b1 ≡ put empty 2 (low_bytes 1 1)
    → b2 ≡ put b1 6 (bytes_one_by_one fields 1 4) → take 22 b2 ≡ bytes_of (outcome (option ip_address) error_code) (0, found_in fields)
found_four_block fields b1 b2 four e1 e2 =
    let step : take 22 b2 ≡ found_bytes (1, (0, ipv4_in fields 1)) = rw (e2, e1) (found_four_bytes fields) in
    step ∙ ap found_bytes (sym (found_four fields four))

pub found_six_block : (fields : List Field) (b1 b2 b3 : List ℕ) → number_in fields 0 ≡ 6 → b1 ≡ put empty 2 (low_bytes 1 1) → b2 ≡ put b1 4 (low_bytes 1 1)
    → b3 ≡ put b2 6 (segments_one_by_one fields 1 8) → take 22 b3 ≡ bytes_of (outcome (option ip_address) error_code) (0, found_in fields)
found_six_block fields b1 b2 b3 six e1 e2 e3 =
    let step : take 22 b3 ≡ found_bytes (1, (1, ipv6_in fields 1)) = rw (e3, e2, e1) (found_six_bytes fields) in
    step ∙ ap found_bytes (sym (found_six fields six))

-- an address takes 32 bytes
length-tested : (b : Bool) (fields : List Field) → length (bytes_of ip_socket_address (if b then (let v : Value ip_socket_address = (0, (number_in fields 5, (ipv4_in fields 1, tt))) in v)
    else (1, (number_in fields 9, (number_in fields 10, (ipv6_in fields 1, (number_in fields 11, tt))))))) ≡ 32
length-tested true fields = refl
length-tested false fields = refl

pub length-address : (fields : List Field) → length (bytes_of ip_socket_address (address_in fields)) ≡ 32
length-address fields = length-tested (number_in fields 0 == 4) fields

bound_own : (v : Value ip_socket_address) → bytes_of (outcome ip_socket_address error_code) (0, v) ≡ 0 ∷ 0 ∷ 0 ∷ 0 ∷ bytes_of ip_socket_address v
bound_own v = ap (λ xs. 0 ∷ 0 ∷ 0 ∷ 0 ∷ xs) (append-nil (bytes_of ip_socket_address v))

pub bound_bytes : (fields : List Field) (part : List ℕ) → part ≡ bytes_of ip_socket_address (address_in fields)
    → take 36 (put_mid 4 32 empty part) ≡ bytes_of (outcome ip_socket_address error_code) (0, address_in fields)
bound_bytes fields part e =
    let long : length part ≡ 32 = ap length e ∙ length-address fields in
    let front : take 32 (part ++ 0 ∷ 0 ∷ 0 ∷ 0 ∷ []) ≡ part = take_at part (0 ∷ 0 ∷ 0 ∷ 0 ∷ []) 32 long in
    ap (λ xs. 0 ∷ 0 ∷ 0 ∷ 0 ∷ xs) (front ∙ e) ∙ sym (bound_own (address_in fields))

-- == lists
pub bytes_list : (place len : ℕ) (bytes : List ℕ) → len ≡ length bytes
    → take 12 (put (put empty 4 (low_bytes 4 place)) 8 (low_bytes 4 len)) ≡ bytes_of (outcome (AList U8) stream_error) (0, (place, bytes))
bytes_list place len bytes e = rw e refl

pub places_list : (place : ℕ) (fields : List Field) → take 8 (put (put empty 0 (low_bytes 4 place)) 4 (low_bytes 4 (length fields))) ≡ bytes_of (AList U32) (place, numbers_in fields)
places_list place fields = ap (λ n. low_bytes 4 place ++ low_bytes 4 n) (sym (length-map fields number_of))

counted : {A : Type 0} (b : Bool) (x : A) → (if b then 0 else 1) ≡ length (if b then [] else x ∷ [])
counted true x = refl
counted false x = refl

pub datagrams_list : (place count : ℕ) (fields : List Field) → count ≡ (if number_in fields 0 == 0 then 0 else 1)
    → take 12 (put (put empty 4 (low_bytes 4 place)) 8 (low_bytes 4 count)) ≡ bytes_of (outcome (AList incoming_datagram) error_code) (0, (place, datagrams_in fields place))
datagrams_list place count fields e =
    ap (λ n. low_bytes 1 0 ++ padding 3 ++ (low_bytes 4 place ++ low_bytes 4 n)) (e ∙ counted (number_in fields 0 == 0) _)
