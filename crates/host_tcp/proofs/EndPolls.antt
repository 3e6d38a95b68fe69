-- What a poll of an end asks where the end is open.
use Rattle.std.specs.Prelude.{◌≡◌, ℕ, ◌==◌, min, take, Bool, true, false, List, [], ◌∷◌, length, suc, Some, refl}
use Rattle.std.proofs.Common.{arith, ◌∙◌}
use Rattle.std.proofs.lemmas.Bool.Decides.{nat_tests}
use Rattle.wasi_world.specs.declared.ids.OpId.{OpId}
use Rattle.wasi_world.specs.Asks.{bind}
use Rattle.tcp_records.specs.Ends.{half_of, receive_half, send_half, look_to_read, look_to_write, read_by_half, write_by_half}
use Rattle.wasi_records.specs.Records.{tcp2_at}
use Rattle.host_store.specs.declared.kind.ConnectionEnd.{ConnectionEnd}
use Rattle.host_store.specs.Block.{after_call, give}
use Rattle.host_tcp.specs.EndPolls.{looked, read_end, read_told, without_state, write_end, write_told}
use Rattle.host_store.specs.Lines.{same_stop}
use Rattle.host_store.specs.Store.{Records}

-- a test of whether there are bytes
some_more : (n : ℕ) → (suc n == 0) ≡ false
some_more n = grind (arith, nat_tests)

pub no_bytes : (bytes : List ℕ) → true ≡ (length bytes == 0) → bytes ≡ []
no_bytes [] h = refl
no_bytes (b ∷ bytes) h = absurd (let t : true ≡ false = h ∙ some_more (length bytes) in cc)

pub some_bytes : (bytes : List ℕ) → false ≡ (length bytes == 0) → bytes ≡ [] → ⊥
some_bytes [] h e = absurd (cc)
some_bytes (b ∷ bytes) h e = absurd (cc)

module _ (store : Records) (op : OpId) (finish : Bool) (end : ConnectionEnd) (socket : ℕ) (e : end.socket ≡ Some socket) where
  pub read_looks : read_end op finish 0 end store ≡ bind (without_state (look_to_read op (half_of receive_half (tcp2_at store.records socket))) tt) (after_call same_stop (λ x none. x) (λ answer. give (looked finish [] answer)) store)
  read_looks = rw e refl

  pub read_goes : (len : ℕ) → (len == 0) ≡ false → read_end op finish len end store ≡ bind (without_state (read_by_half op (min len 8192) (half_of receive_half (tcp2_at store.records socket))) tt) (after_call same_stop (λ x none. x) (read_told op finish end.slot socket) store)
  read_goes len n = rw (e, n) refl

  pub write_looks : write_end op finish [] end store ≡ bind (without_state (look_to_write op (half_of send_half (tcp2_at store.records socket))) tt) (after_call same_stop (λ x none. x) (λ answer. give (looked finish 0 answer)) store)
  write_looks = rw e refl

  pub write_goes : (bytes : List ℕ) → (bytes ≡ [] → ⊥) → write_end op finish bytes end store ≡ bind (without_state (write_by_half op (take 4294967295 bytes) (half_of send_half (tcp2_at store.records socket))) tt) (after_call same_stop (λ x none. x) (write_told op finish end.slot socket) store)
  write_goes [] n = absurd (n refl)
  write_goes (b ∷ bytes) n = rw e refl
