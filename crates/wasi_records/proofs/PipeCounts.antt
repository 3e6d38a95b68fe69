-- The network sockets of the records, where a pipe is replaced or comes.
use Rattle.std.proofs.Common.{◌≡◌, ℕ, zero, suc, ◌+◌, List, [], ◌∷◌, ◌++◌, Some, ap, refl}
use Rattle.memory_streams.specs.Plain.{Contents}
use Rattle.wasi_records.specs.declared.records.Record.{Record}
use Rattle.wasi_records.specs.declared.records.Record.TheVariants.{Tcp, Udp, Lookup, InputPipe, OutputPipe, Slot as SlotRecord, Gone}
use Rattle.wasi_records.specs.Records.{input_pipe_at, input_pipe_put, output_pipe_at, output_pipe_put}
use Rattle.record_common.specs.Sides.{Weight, no_socket}
use Rattle.wasi_records.specs.Sides.{held_by, held_in}
use Rattle.record_common.proofs.SideCounts.{same_tally}

module _ (w : Weight) where
  input_in : (rs : List Record) (i : ℕ) (old now : List ℕ) → input_pipe_at rs i ≡ Some old → held_in (input_pipe_put rs i now) w ≡ held_in rs w
  input_in [] i old now h = refl
  input_in (Tcp r ∷ rs) zero old now h = absurd (cc)
  input_in (Udp u ∷ rs) zero old now h = absurd (cc)
  input_in (Lookup l ∷ rs) zero old now h = absurd (cc)
  input_in (OutputPipe p ∷ rs) zero old now h = absurd (cc)
  input_in (SlotRecord s ∷ rs) zero old now h = absurd (cc)
  input_in (Gone ∷ rs) zero old now h = absurd (cc)
  input_in (InputPipe b ∷ rs) zero old now h = refl
  input_in (x ∷ rs) (suc i) old now h = ap (λ n. held_by x w + n) (input_in rs i old now h)

  output_in : (rs : List Record) (i : ℕ) (old now : Contents) → output_pipe_at rs i ≡ Some old → held_in (output_pipe_put rs i now) w ≡ held_in rs w
  output_in [] i old now h = refl
  output_in (Tcp r ∷ rs) zero old now h = absurd (cc)
  output_in (Udp u ∷ rs) zero old now h = absurd (cc)
  output_in (Lookup l ∷ rs) zero old now h = absurd (cc)
  output_in (InputPipe b ∷ rs) zero old now h = absurd (cc)
  output_in (OutputPipe p ∷ rs) zero old now h = refl
  output_in (SlotRecord s ∷ rs) zero old now h = absurd (cc)
  output_in (Gone ∷ rs) zero old now h = absurd (cc)
  output_in (x ∷ rs) (suc i) old now h = ap (λ n. held_by x w + n) (output_in rs i old now h)

  pub more_in : (rs : List Record) (r : Record) → held_by r w ≡ 0 → held_in (rs ++ r ∷ []) w ≡ held_in rs w
  more_in [] r e = rw e refl
  more_in (x ∷ rs) r e = ap (λ n. held_by x w + n) (more_in rs r e)

-- == a pipe that is replaced holds no network socket, as before
pub held_in-input : (rs : List Record) (i : ℕ) (old now : List ℕ) → input_pipe_at rs i ≡ Some old → held_in (input_pipe_put rs i now) ≡ held_in rs
held_in-input rs i old now h = same_tally (λ w. input_in w rs i old now h)

pub held_in-output : (rs : List Record) (i : ℕ) (old now : Contents) → output_pipe_at rs i ≡ Some old → held_in (output_pipe_put rs i now) ≡ held_in rs
held_in-output rs i old now h = same_tally (λ w. output_in w rs i old now h)

-- nor does one more
pub held_in-more : (rs : List Record) (r : Record) → held_by r ≡ no_socket → held_in (rs ++ r ∷ []) ≡ held_in rs
held_in-more rs r e = same_tally (λ w. more_in w rs r (ap (λ held. held w) e))
