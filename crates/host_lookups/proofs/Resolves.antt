-- Lookups of 0.3: what the code answers, and what it keeps of them.
use Rattle.std.specs.Prelude.{◌≡◌, ℕ, List, OnErr, Result, Ok, Err, refl}
use Rattle.std.specs.declared.alloc.AllocError.{AllocError}
use Rattle.wasi_addr.specs.declared.address.IpAddress.{IpAddress}
use Rattle.wasi_world.specs.declared.asks.Polled.{Polled}
use Rattle.wasi_world.specs.declared.asks.Polled.TheVariants as polled
use Rattle.wasi_world.specs.Seen.{Seen}
use Rattle.wasi_world.specs.Asks.{Give, bind, AsksFor}
use Rattle.wasi_world.specs.Typed.{ask_lookup}
use Rattle.wasi_world.proofs.Walks.{asks_end, asks_err, reaches_in, reaches_on}
use Rattle.record_common.specs.Names.{own_of}
use Rattle.host_store.specs.declared.beside.Beside.{Beside}
use Rattle.host_store.specs.Beside.{beside_polled, besided}
use Rattle.host_lookups.specs.Resolves.{Resolved, begun_lookup, looks_up, names_outcome, polled_lookup}
use Rattle.host_store.specs.Store.{Records}

-- what the code was told
abbrev pub Told : ℕ → List ℕ → Seen → Seen → Result (Polled (List IpAddress)) AllocError → Type 0
Told line host s t told = AsksFor (ask_lookup (own_of line) host) s t (λ (answer : Polled (List IpAddress)). answer) told

-- what is left of the records
abbrev pub left_with : Records → List Beside → Records
left_with store calls = record store { beside = calls }

-- out of memory it stands beside others still
pub lookup_stays : (calls : List Beside) (line : ℕ) (told : Result (Polled (List IpAddress)) AllocError) → OnErr (names_outcome told) (polled_lookup calls line told ≡ calls)
lookup_stays calls line (Ok polled.Pending) = tt
lookup_stays calls line (Ok (polled.Ready names)) = tt
lookup_stays calls line (Ok (polled.Code c)) = tt
lookup_stays calls line (Err e) = refl

module _ (store : Records) (line : ℕ) (host : List ℕ) {s t : Seen} where
  -- it begins
  pub begun_asked : (b : Beside) (told : Result (Polled (List IpAddress)) AllocError) → Told line host s t told
      → AsksFor (bind (looks_up line host) (λ told. Give (besided b (told, store)))) s t (λ (answer : Resolved). (answer, left_with store (begun_lookup store.beside b told))) (names_outcome told)
  begun_asked b (Ok polled.Pending) h = asks_end _ (reaches_on _ h.ok) refl
  begun_asked b (Ok (polled.Ready names)) h = asks_end _ (reaches_on _ h.ok) refl
  begun_asked b (Ok (polled.Code c)) h = asks_end _ (reaches_on _ h.ok) refl
  begun_asked b (Err e) h = asks_err _ (reaches_in _ (reaches_in _ h.err.reached))

  -- it is asked about again
  pub polled_asked : (told : Result (Polled (List IpAddress)) AllocError) → Told line host s t told
      → AsksFor (bind (looks_up line host) (λ told. Give (beside_polled line (told, store)))) s t (λ (answer : Resolved). (answer, left_with store (polled_lookup store.beside line told))) (names_outcome told)
  polled_asked (Ok polled.Pending) h = asks_end _ (reaches_on _ h.ok) refl
  polled_asked (Ok (polled.Ready names)) h = asks_end _ (reaches_on _ h.ok) refl
  polled_asked (Ok (polled.Code c)) h = asks_end _ (reaches_on _ h.ok) refl
  polled_asked (Err e) h = asks_err _ (reaches_in _ (reaches_in _ h.err.reached))
