-- The local address of a socket, where memory is short.
use Rattle.std.specs.Prelude.{◌≡◌, Bool, true, Result, Ok, Err, OnErr}
use Rattle.std.specs.declared.alloc.AllocError.{AllocError}
use Rattle.std.proofs.Common.{sym, subst, ◌∙◌}
use Rattle.wasi_world.specs.declared.ids.OpId.{OpId}
use Rattle.wasi_world.specs.Seen.{Seen}
use Rattle.wasi_world.specs.Asks.{Give, bind, Reaches}
use Rattle.wasi_world.proofs.Walks.{reaches_all, reaches_on}
use Rattle.wasi_udp.specs.Shape.{Socket}
use Rattle.wasi_udp.specs.Socket.{ask_bound, bound_asks, local_asks, local_where}

-- nothing was asked
pub local_unasked : {T : Type 0} (op : OpId) (old new : Socket) (s t : Seen) (r : Result T AllocError) → new ≡ old → t ≡ s → OnErr r (Reaches (local_asks op old) (local_asks op new) s t)
local_unasked op old new s t (Ok x) h e = tt
local_unasked op old new s t (Err d) h e = rw (h, e) (reaches_all (local_asks op old) s)

-- what is left of the call is the same call on what the socket is then: it is bound, which is kept
pub local_left_over : {T : Type 0} (op : OpId) (old new : Socket) (bound : Bool) (s t u : Seen) (r : Result T AllocError) → Reaches (bound_asks op old) (Give (bound, new)) s t → new.bound ≡ bound → OnErr r (u ≡ t) → OnErr r (bound ≡ true) → OnErr r (Reaches (local_asks op old) (local_asks op new) s u)
unfolding bind
local_left_over op old new bound s t u (Ok x) h k e b = tt
local_left_over op old new bound s t u (Err d) h k e b =
    let P : Bool → Type 0 = λ known. Reaches (local_asks op old) (bind (ask_bound op new known) (λ x. local_where op x.1 x.0)) s u in
    let Q : Bool → Type 0 = λ known. Reaches (local_asks op old) (local_where op new known) s u in
    subst P (sym (k ∙ b)) (subst Q b (rw e (reaches_on (λ x. local_where op x.1 x.0) h)))
