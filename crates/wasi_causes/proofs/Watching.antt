-- In a run what a live pollable watches is there: the socket, the streams of a connection, or the UDP socket of an incoming datagram
-- stream, since the pollable is under a live handle of it.
use Rattle.wasi_causes.proofs.Words.{Entry, Give, IsSome, Kind, Left, List, Machine, Option, Pollable, Reply, Some, Step, WasiSocketsCtx, Watched, [], first_state, kind_at, refl, run, ℕ, ◌≡◌}
use Rattle.host_store.specs.Kinds.{watch_of}
use Rattle.wasi_walks.specs.Missing.{MissesWatched}
use Rattle.wasi_records.specs.Records.{tcp2_at}
use Rattle.wasi_walks.specs.Answered.{streams_in}
use Rattle.wasi_causes.proofs.Derived.{NamesWatched, OwnedIn, held, runs_own, streams_held, watched_record}
use Rattle.wasi_causes.proofs.Words.{place_in, slice_get}

module _ (m : Machine) (i : OwnedIn m) where
  names_miss : (w : Watched) → NamesWatched w (slice_get m.store.records (place_in w)) → MissesWatched m (Some w) → ⊥
  names_miss (Watched.Socket place) names misses = let there : IsSome (tcp2_at m.store.records place) = held (tcp2_at m.store.records place) names in absurd (cc)
  names_miss (Watched.Input place) names misses = let there : IsSome (streams_in (tcp2_at m.store.records place)) = streams_held (tcp2_at m.store.records place) names in absurd (cc)
  names_miss (Watched.Output place) names misses = let there : IsSome (streams_in (tcp2_at m.store.records place)) = streams_held (tcp2_at m.store.records place) names in absurd (cc)
  names_miss (Watched.Incoming place) names misses = absurd (cc)
  names_miss _ names misses = misses

  -- a live pollable misses nothing
  pub what_is_watched : (handle : ℕ) → IsSome (watch_of (kind_at m.table handle)) → MissesWatched m (watch_of (kind_at m.table handle)) → ⊥
  what_is_watched handle = by_kind (kind_at m.table handle) refl
    where
      by_watched : (w : Watched) → kind_at m.table handle ≡ Some (Pollable w) → MissesWatched m (Some w) → ⊥
      by_watched Watched.Plain e misses = misses
      by_watched w e misses = names_miss w (watched_record m i handle (place_in w) w e refl) misses

      by_kind : (k : Option Kind) → kind_at m.table handle ≡ k → IsSome (watch_of k) → MissesWatched m (watch_of k) → ⊥
      by_kind (Some (Pollable w)) e watches misses = by_watched w e misses
      by_kind _ e watches misses = absurd (cc)

-- == of a run
pub runs_have_what_is_watched : (contexts : List WasiSocketsCtx) (steps : List Step) (es : List Entry) (replies : List Reply) (m : Machine) → Left (run contexts [] first_state 1 steps) es (Give (replies, m)) → (handle : ℕ) → IsSome (watch_of (kind_at m.table handle)) → MissesWatched m (watch_of (kind_at m.table handle)) → ⊥
runs_have_what_is_watched contexts steps es replies m w = what_is_watched m (runs_own contexts steps es replies m w)
