-- What a line gives to its parts begins past its first name.
use Rattle.wasi_walks.proofs.Words.{Bool, List, Machine, None, Option, Some, Standing, Step, Streams, TcpRecord, WriteState, [], false, if◌then◌else◌, length, nat_lt, output_at, true, ℕ, ⊤, ◌∷◌, ◌≤◌}
use Rattle.wasi_records.specs.Records.{tcp2_at}
use Rattle.wasi_steps.specs.declared.guest_call.GuestCall.TheVariants as guest
use Rattle.wasi_steps.specs.declared.guest_call.StreamCall.TheVariants as stream_call
use Rattle.wasi_steps.specs.declared.step.Step.TheVariants as step
use Rattle.wasi_streams.specs.Streams.{zeros}
use Rattle.wasi_walks.proofs.walks.Moves.{Names, Own, ToWrite, Unused}
use Rattle.wasi_walks.proofs.walks.Steps.{may_while}
use Rattle.wasi_walks.proofs.walks.Writes.{may_at, may_begin, may_in, may_of}

-- the next name of a line that counts isn't its first
abbrev pub GivesLater : Own → Type 0
GivesLater (Names n) = 1 ≤ n
GivesLater own = ⊤

-- a line that begins gives no names yet
begin_later : (w : WriteState) (bytes : List ℕ) → GivesLater (may_begin w bytes)
begin_later (WriteState.Ready half permit) [] = tt
begin_later (WriteState.Ready half permit) (b ∷ bytes) = by_test (nat_lt permit (length (b ∷ bytes)))
  where
    by_test : (t : Bool) → GivesLater (if t then Unused else ToWrite half.side (b ∷ bytes))
    by_test true = tt
    by_test false = tt
begin_later _ bytes = tt

at_later : (m : Machine) (bytes : List ℕ) (o : Option ℕ) → GivesLater (may_at m bytes o)
at_later m bytes None = tt
at_later m bytes (Some place) = in_later (tcp2_at m.store.records place)
  where
    of_later : (s : Option Streams) → GivesLater (may_of s bytes)
    of_later None = tt
    of_later (Some s) = begin_later s.writer bytes

    in_later : (r : Option TcpRecord) → GivesLater (may_in r bytes)
    in_later None = tt
    in_later (Some r) = of_later r.streams

pub may_later : (m : Machine) (s : Step) (standing : Option Standing) → GivesLater (may_while m s standing)
may_later m (step.Call ctx (guest.Stream (stream_call.Write output bytes))) None = at_later m bytes (output_at m output)
may_later m (step.Call ctx (guest.Stream (stream_call.WriteZeroes output len))) None = at_later m (zeros len) (output_at m output)
may_later m _ None = tt
may_later m s (Some c) = tt
