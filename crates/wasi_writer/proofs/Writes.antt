-- What the owner of a stream knows goes with the chunks that it pushed.
use Rattle.std.proofs.Common.{◌≡◌, ◌+◌, ◌-◌, ◌==◌, ℕ, Bool, true, false, if◌then◌else◌, List, [], ◌∷◌, length, Result, Ok, Err, refl, ap, ◌∙◌, sym, length-append}
use Rattle.std.specs.List.{concat}
use Rattle.wasi_streams.specs.declared.error.StreamError.{StreamError}
use Rattle.wasi_streams.specs.declared.error.StreamError.TheVariants.{LastOperationFailed, Closed, Trap, Memory}
use Rattle.worker_shared.specs.Ends.{End, with_chunk}
use Rattle.wasi_writer.specs.Knows.{OwnerKnows}
use Rattle.wasi_writer.specs.Answers.{after_write, after_push, after_error}
use Rattle.worker_shared.proofs.Chunks.{concat_end}

record Tied (knows : OwnerKnows) (end : End) : Type 0 where
  accepted : knows.accepted ≡ length (concat end.chunks)
  pushed : knows.pushed ≡ length end.chunks
  done : knows.done ≡ false

tied_if : (b : Bool) (k k' : OwnerKnows) (e e' : End) → Tied k e → Tied k' e' → Tied (if b then k else k') (if b then e else e')
tied_if true k k' e e' t t' = t
tied_if false k k' e e' t t' = t'

tied_more : (k : OwnerKnows) (e : End) (chunk : List ℕ) → Tied k e → Tied (record k { accepted = k.accepted + length chunk; pushed = k.pushed + 1; permit = k.permit - length chunk; flush = false; ready = false }) (with_chunk e chunk)
tied_more k e chunk t = record {
  accepted = ap (λ n. n + length chunk) t.accepted ∙ sym (length-append (concat e.chunks) chunk) ∙ ap length (sym (concat_end e.chunks chunk));
  pushed = ap (λ n. n + 1) t.pushed ∙ sym (length-append e.chunks (chunk ∷ []));
  done = t.done;
}

tied_error : (k : OwnerKnows) (e : End) (error : StreamError) → Tied k e → Tied (after_error k error) e
tied_error k e (LastOperationFailed code) t = record { accepted = t.accepted; pushed = t.pushed; done = t.done }
tied_error k e Closed t = t
tied_error k e (Trap kind) t = t
tied_error k e (Memory m) t = t

tied_write : (k : OwnerKnows) (e : End) (chunk : List ℕ) (r : Result (Unit {0}) StreamError) → Tied k e → Tied (after_write k (length chunk) r) (after_push e chunk r)
tied_write k e chunk (Ok done) t = tied_if (length chunk == 0) k (record k { accepted = k.accepted + length chunk; pushed = k.pushed + 1; permit = k.permit - length chunk; flush = false; ready = false }) e (with_chunk e chunk) t (tied_more k e chunk t)
tied_write k e chunk (Err error) t = tied_error k e error t

line_if : (b : Bool) (e e' : End) → e'.line ≡ e.line → (if b then e else e').line ≡ e.line
line_if true e e' same = refl
line_if false e e' same = same

-- a write keeps the line
pub line_kept : (e e' : End) (chunk : List ℕ) (r : Result (Unit {0}) StreamError) → e' ≡ after_push e chunk r → e'.line ≡ e.line
line_kept e e' chunk (Ok done) is = ap (λ (end : End). end.line) is ∙ line_if (length chunk == 0) e (with_chunk e chunk) refl
line_kept e e' chunk (Err error) is = ap (λ (end : End). end.line) is

-- what the owner of these chunks knows
abbrev known : End → OwnerKnows → OwnerKnows
known e k = record { accepted = length (concat e.chunks); pushed = length e.chunks; permit = k.permit; flush = k.flush; ready = k.ready; told = k.told; stopped = k.stopped; done = false }

tied_of : (k : OwnerKnows) (e : End) → k ≡ known e k → Tied k e
tied_of k e is = record { accepted = ap (λ (o : OwnerKnows). o.accepted) is; pushed = ap (λ (o : OwnerKnows). o.pushed) is; done = ap (λ (o : OwnerKnows). o.done) is }

known_if : (k : OwnerKnows) (e : End) → Tied k e → k ≡ known e k
known_if k e t = λ i. record { accepted = t.accepted i; pushed = t.pushed i; permit = k.permit; flush = k.flush; ready = k.ready; told = k.told; stopped = k.stopped; done = t.done i }

-- a write keeps what is known to the chunks
pub knows_kept : (k k' : OwnerKnows) (e e' : End) (chunk : List ℕ) (r : Result (Unit {0}) StreamError) → k ≡ known e k
    → k' ≡ after_write k (length chunk) r → e' ≡ after_push e chunk r → k' ≡ known e' k'
knows_kept k k' e e' chunk r is knows pushed = known_if k' e' (rw (knows, pushed) (tied_write k e chunk r (tied_of k e is)))
