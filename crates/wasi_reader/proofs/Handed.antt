-- What was given and kept of a read stream, call by call.
use Rattle.std.proofs.Common.{◌≡◌, ◌<◌, ◌+◌, ◌-◌, ℕ, Bool, false, List, [], ◌∷◌, ◌++◌, length, min, take, drop, ap, ◌∙◌, sym, append_assoc, append-nil, arith, length-append, length-take, true≢false, rules}
use Rattle.std.proofs.lemmas.List.{take-append-drop}
use Rattle.std.proofs.Math.Seq.{take-append_seam}
use Rattle.std.specs.List.{concat}
use Rattle.std.specs.declared.alloc.Global.{Global}
use Rattle.crossbeam_queue.specs.SegTies.{SegId}
use Rattle.world_io.specs.Io.{Reading}
use Rattle.worker_shared.specs.Ends.{End, with_chunk}
use Rattle.wasi_reader.specs.Knows.{OwnerKnows, nothing_yet}
use Rattle.wasi_reader.specs.Stream.{ReadStream, given_of, Refilled, IsCut}
use Rattle.wasi_reader.specs.Owned.{Owned}
use Rattle.worker_shared.proofs.Chunks.{concat_end}

-- what was given is what comes before what is kept
pub given_is : (chunks : List (List ℕ)) (given kept : List ℕ) → concat chunks ≡ given ++ kept → given_of chunks kept ≡ given
given_is chunks given kept e = let n : length (given ++ kept) - length kept ≡ length given = omega (arith, length-append given kept) in
    ap (λ l. take (length l - length kept) l) e ∙ ap (λ n. take n (given ++ kept)) n ∙ take-append_seam given kept

-- what contracts see of a stream with these parts
abbrev pub stream_of : Reading → End → OwnerKnows → List ℕ → Bool → ReadStream
stream_of began pop keys rest closed = record {
  began = began;
  given = given_of pop.chunks rest;
  kept = rest;
  ready = keys.ready;
  stopped = keys.stopped;
  closed = closed;
  heard = keys.heard;
}

-- a new stream
pub owned_new : (ours line : SegId Global) (pop : End) (keys : OwnerKnows) (rest : List ℕ) → pop ≡ record { line = line; chunks = [] } → line ≡ ours → keys ≡ nothing_yet → rest ≡ []
    → Owned ours pop keys rest false
owned_new ours line pop keys rest empty is nothing none = record {
  line = ap (λ (e : End). e.line) empty ∙ is;
  counted = ap (λ (k : OwnerKnows). k.popped) nothing ∙ ap length (sym (ap (λ (e : End). e.chunks) empty));
  split = let all : concat pop.chunks ≡ [] ++ rest = ap concat (ap (λ (e : End). e.chunks) empty) ∙ sym none in all ∙ ap (λ l. l ++ rest) (sym (given_is pop.chunks [] rest all));
  heard = λ e. ap (λ (k : OwnerKnows). k.heard) nothing;
  empty = λ closed. none;
}

all_with : (pop pop' : End) (rest chunk : List ℕ) → concat pop.chunks ≡ given_of pop.chunks rest ++ rest → rest ≡ [] → pop' ≡ with_chunk pop chunk → concat pop'.chunks ≡ given_of pop.chunks rest ++ chunk
all_with pop pop' rest chunk split none more = ap concat (ap (λ (e : End). e.chunks) more) ∙ concat_end pop.chunks chunk
    ∙ ap (λ l. l ++ chunk) (split ∙ ap (λ l. given_of pop.chunks rest ++ l) none ∙ append-nil (given_of pop.chunks rest))

-- the next chunk was taken
pub owned_chunk : (ours : SegId Global) (pop pop' : End) (keys keys' : OwnerKnows) (rest chunk : List ℕ) (closed : Bool) → Owned ours pop keys rest closed → rest ≡ [] → closed ≡ false
    → pop' ≡ with_chunk pop chunk → keys' ≡ record keys { popped = keys.popped + 1; ready = false } → Owned ours pop' keys' chunk closed
owned_chunk ours pop pop' keys keys' rest chunk closed o none unclosed more knows = let all = all_with pop pop' rest chunk o.split none more in record {
  line = ap (λ (e : End). e.line) more ∙ o.line;
  counted = ap (λ (k : OwnerKnows). k.popped) knows ∙ ap (λ n. n + 1) o.counted ∙ sym (length-append pop.chunks (chunk ∷ [])) ∙ ap length (sym (ap (λ (e : End). e.chunks) more));
  split = all ∙ ap (λ l. l ++ chunk) (sym (given_is pop'.chunks (given_of pop.chunks rest) chunk all));
  heard = λ e. ap (λ (k : OwnerKnows). k.heard) knows ∙ o.heard e;
  empty = λ is. absurd (true≢false (sym is ∙ unclosed));
}

pub refilled : (ours : SegId Global) (pop pop' : End) (keys keys' : OwnerKnows) (rest chunk : List ℕ) (closed : Bool) (began : Reading) → Owned ours pop keys rest closed → rest ≡ []
    → pop' ≡ with_chunk pop chunk → keys' ≡ record keys { popped = keys.popped + 1; ready = false } → 0 < length chunk
    → Refilled (stream_of began pop keys rest closed) (stream_of began pop' keys' chunk closed)
refilled ours pop pop' keys keys' rest chunk closed began o none more knows filled = let same = given_is pop'.chunks (given_of pop.chunks rest) chunk (all_with pop pop' rest chunk o.split none more) in record {
  stream = λ i. record {
    began = began;
    given = same i;
    kept = chunk;
    ready = keys'.ready;
    stopped = ap (λ (k : OwnerKnows). k.stopped) knows i;
    closed = closed;
    heard = ap (λ (k : OwnerKnows). k.heard) knows i;
  };
  some = λ ready. filled;
  none = λ empty. absurd (omega (arith, empty, filled));
}

cut_is : (n : ℕ) (rest bytes rest' : List ℕ) → bytes ≡ take n rest → rest' ≡ drop n rest → rest ≡ bytes ++ rest'
cut_is n rest bytes rest' front left = sym ((λ i. front i ++ left i) ∙ take-append-drop n rest)

all_cut : (chunks : List (List ℕ)) (rest bytes rest' : List ℕ) → concat chunks ≡ given_of chunks rest ++ rest → rest ≡ bytes ++ rest' → concat chunks ≡ (given_of chunks rest ++ bytes) ++ rest'
all_cut chunks rest bytes rest' split is = split ∙ ap (λ l. given_of chunks rest ++ l) is ∙ sym (append_assoc (given_of chunks rest) bytes rest')

drop_none : (n : ℕ) → drop {A = ℕ} n [] ≡ []
drop_none n = search rules

min_min : (a b : ℕ) → min (min a b) b ≡ min a b
min_min a b = omega arith

-- bytes were cut off the front of what was kept
pub owned_cut : (ours : SegId Global) (pop : End) (keys : OwnerKnows) (rest : List ℕ) (closed : Bool) (n : ℕ) (bytes rest' : List ℕ) → Owned ours pop keys rest closed → bytes ≡ take n rest → rest' ≡ drop n rest
    → Owned ours pop keys rest' closed
owned_cut ours pop keys rest closed n bytes rest' o front left = let all = all_cut pop.chunks rest bytes rest' o.split (cut_is n rest bytes rest' front left) in record {
  line = o.line;
  counted = o.counted;
  split = all ∙ ap (λ l. l ++ rest') (sym (given_is pop.chunks (given_of pop.chunks rest ++ bytes) rest' all));
  heard = o.heard;
  empty = λ is. left ∙ ap (λ l. drop n l) (o.empty is) ∙ drop_none n;
}

pub is_cut : (ours : SegId Global) (pop : End) (keys : OwnerKnows) (rest : List ℕ) (closed : Bool) (began : Reading) (size : ℕ) (bytes rest' : List ℕ) → Owned ours pop keys rest closed
    → bytes ≡ take (min size (length rest)) rest → rest' ≡ drop (min size (length rest)) rest → IsCut (stream_of began pop keys rest closed) size bytes (stream_of began pop keys rest' closed)
is_cut ours pop keys rest closed began size bytes rest' o front left = let is = cut_is (min size (length rest)) rest bytes rest' front left in
    let given = given_is pop.chunks (given_of pop.chunks rest ++ bytes) rest' (all_cut pop.chunks rest bytes rest' o.split is) in record {
      stream = λ i. record { began = began; given = given i; kept = rest'; ready = keys.ready; stopped = keys.stopped; closed = closed; heard = keys.heard };
      front = is;
      count = ap length front ∙ length-take (min size (length rest)) rest ∙ min_min size (length rest);
    }
