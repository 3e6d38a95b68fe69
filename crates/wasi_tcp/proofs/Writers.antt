-- Calls of a writing end, as parts of others.
use Rattle.std.specs.Prelude.{◌≡◌, true, Result, Ok, Err, IsErr, OnErr, refl}
use Rattle.std.proofs.Common.{subst}
use Rattle.wasi_world.specs.declared.ids.OpId.{OpId}
use Rattle.wasi_world.specs.Seen.{Seen}
use Rattle.wasi_world.specs.Asks.{Asks, Give, bind, Reaches}
use Rattle.wasi_world.proofs.Walks.{reaches_on}
use Rattle.wasi_streams.specs.StreamStop.{StreamStop}
use Rattle.wasi_tcp.specs.declared.writer.WriteState.{WriteState}
use Rattle.wasi_tcp.specs.declared.writer.WriteState.TheVariants as state
use Rattle.wasi_tcp.specs.Writer.{collected, look_in, look_asks, is_ready, turn_asks, begun, write_on_asks}

-- of a half that is ready nothing is in progress
idle : (op : OpId) (s : WriteState) → is_ready s ≡ true → bind (look_in op s) (λ looked. Give (begun looked)) ≡ write_on_asks op s
unfolding bind
idle op (state.Ready half permit) h = refl
idle op (state.Writing job) h = absurd (cc)
idle op (state.Closing job) h = absurd (cc)
idle op (state.Closed e) h = absurd (cc)

-- after running out of memory in the look, the look of what the state is then is left
pub look_left_over : (op : OpId) (old turned new : WriteState) {s t u : Seen} → Reaches (turn_asks old) (Give (tt, turned)) s t → new ≡ collected turned → is_ready new ≡ true → u ≡ t → Reaches (write_on_asks op old) (write_on_asks op new) s u
look_left_over op old turned new {s} {t} {u} h c r e =
    let P : Asks (Result (Unit {0}) StreamStop × WriteState) → Type 0 = λ rest. Reaches (write_on_asks op old) rest s t in
    let Q : WriteState → Type 0 = λ x. bind (look_in op x) (λ looked. Give (begun looked)) ≡ write_on_asks op new in
    let left : bind (look_asks op turned) (λ looked. Give (begun looked)) ≡ write_on_asks op new = subst Q c (idle op new r) in
    rw e (subst P left (reaches_on (λ (x : Unit {0} × WriteState). bind (look_asks op x.1) (λ looked. Give (begun looked))) h))

-- an answer that runs out of memory asked nothing where the one that it is made of did so
pub none_asked : {T U D E : Type 0} (P : Type 0) (told : Result T D) (looked : Result U E) → OnErr told (IsErr looked) → OnErr looked P → OnErr told P
none_asked P (Ok t) looked h k = tt
none_asked P (Err d) (Ok u) h k = absurd (cc)
none_asked P (Err d) (Err e) h k = k
