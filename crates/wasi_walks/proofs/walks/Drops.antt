-- A drop, as moves: by the kind of the handle.
use Rattle.wasi_walks.proofs.walks.Moves.{Empties}
use Rattle.wasi_walks.proofs.Words.{Bool, Err, ErrorValue, Has, HasChildren, Input, Kind}
use Rattle.wasi_walks.proofs.Words.{List, Machine, Network, None, Ok, Option, Output, Pollable}
use Rattle.wasi_walks.proofs.Words.{Ready, Some, Step, Tcp2}
use Rattle.wasi_walks.proofs.Words.{Trap, WasiSocketsCtx}
use Rattle.wasi_walks.proofs.Words.{ap, drop_taken}
use Rattle.wasi_walks.proofs.Words.{false, first_ids, handles_of, has_no_child, if◌then◌else◌, kind_at}
use Rattle.wasi_walks.proofs.Words.{refl}
use Rattle.wasi_walks.proofs.Words.{taken_out, true}
use Rattle.wasi_walks.proofs.Words.{with_store}
use Rattle.wasi_walks.proofs.Words.{without_handle}
use Rattle.wasi_walks.proofs.Words.{ℕ, ◌≡◌}
use Rattle.wasi_addr.specs.declared.address.ShutdownType.TheVariants.{Receive, Send}
use Rattle.wasi_records.specs.Records.{tcp2_at, udp2_at, open_at, lookup_at}
use Rattle.wasi_walks.proofs.walks.Moves.{Unused, Spends, record_of, Reaches, Leaves, Takes, ReachesUdp, WithHandle, udp_record_of}
use Rattle.wasi_walks.proofs.walks.Law.{Law, Walks, give, and_then, move, gives}
use Rattle.wasi_walks.proofs.walks.States.{Emptying, OverWith, Starts, none_stands}
use Rattle.wasi_walks.proofs.walks.Pipes.{drop_input_walks, drop_output_walks as drop_plain_output_walks}
use Rattle.wasi_walks.proofs.walks.SocketDatagrams.{drop_udp_walks}
use Rattle.wasi_walks.proofs.walks.Udp.{release_udp_walks}
use Rattle.wasi_walks.proofs.walks.Lookups.{drop_lookup_walks}
use Rattle.host_store.specs.declared.kind.Kind.TheVariants.{Listen3, Receive3, Result3, Send3, Tcp3, Udp2, Udp3, PlainInput, PlainOutput, Incoming, Outgoing, Lookup}
use Rattle.wasi_host.specs.HandleDrops.{answered}
use Rattle.wasi_walks.proofs.walks.Receives.{drop_incoming_walks}
use Rattle.wasi_walks.proofs.walks.Sends.{drop_outgoing_walks}
use Rattle.wasi_walks.proofs.walks.Releases.{drop_output_walks, handle_goes_walks, listener_goes_walks, release_at_walks}
use Rattle.wasi_walks.proofs.walks.Ends.{drop_end_walks, drop_slot_walks}
use Rattle.wasi_walks.proofs.walks.Moves.{end_of}

module _ {contexts : List WasiSocketsCtx} {line : ℕ} {origin : Step} {law : Law contexts line origin} where
  dropped_walks : (m : Machine) (this : ℕ) (kind : Kind) (b : Bool) → Has (handles_of origin) this → kind_at m.table this ≡ Some kind → has_no_child m.table this ≡ b → m.store.standing ≡ None
      → Walks law (Starts m Unused) OverWith (drop_taken m (first_ids line) (if b then (Ok kind, without_handle m.table this) else (Err (Trap HasChildren), m.table)))
  dropped_walks m this kind false named e free q = gives _ (Spends _ refl)
  dropped_walks m this (Tcp2 place) true named e free q =
      let now : Machine = record m { table = without_handle m.table this } in
      move (Reaches _ this place named (ap record_of e)) (move (Empties _ this (Tcp2 place) (none_stands q) e free) (and_then (release_at_walks now place (tcp2_at m.store.records place) refl q) (λ done. give _)))
  dropped_walks m this (Udp2 place) true named e free q =
      let now : Machine = record m { table = without_handle m.table this } in
      move (ReachesUdp _ this place named (ap udp_record_of e)) (move (Empties _ this (Udp2 place) (none_stands q) e free) (and_then (release_udp_walks (Emptying line now place (Udp2 place) Unused) place line (udp2_at m.store.records place) refl (λ o g. WithHandle q refl)) (λ done. move (Spends _ refl) (gives _ (Leaves _)))))
  dropped_walks m this (Udp3 place) true named e free q =
      let now : Machine = record m { table = without_handle m.table this } in
      move (ReachesUdp _ this place named (ap udp_record_of e)) (move (Empties _ this (Udp3 place) (none_stands q) e free) (and_then (drop_udp_walks now place q) (λ done. give _)))
  dropped_walks m this (Tcp3 place) true named e free q =
      let now : Machine = record m { table = without_handle m.table this } in
      move (Reaches _ this place named (ap record_of e)) (move (Empties _ this (Tcp3 place) (none_stands q) e free) (and_then (handle_goes_walks now place q) (λ done. give _)))
  dropped_walks m this (Listen3 place) true named e free q =
      let now : Machine = record m { table = without_handle m.table this } in
      move (Reaches _ this place named (ap record_of e)) (move (Empties _ this (Listen3 place) (none_stands q) e free) (and_then (listener_goes_walks now place q) (λ done. give _)))
  dropped_walks m this (Incoming place) true named e free q =
      let now : Machine = record m { table = without_handle m.table this } in
      move (ReachesUdp _ this place named (ap udp_record_of e)) (move (Empties _ this (Incoming place) (none_stands q) e free) (drop_incoming_walks now place (open_at m.store.records place) refl))
  dropped_walks m this (Outgoing place) true named e free q =
      let now : Machine = record m { table = without_handle m.table this } in
      move (ReachesUdp _ this place named (ap udp_record_of e)) (move (Takes _ this (none_stands q) refl free) (move (Spends _ refl) (drop_outgoing_walks (first_ids line) now place (none_stands q) (λ done. answered (with_store now done)) (λ done. refl))))
  dropped_walks m this (Lookup place) true named e free q =
      let now : Machine = record m { table = without_handle m.table this } in
      move (Empties _ this (Lookup place) (none_stands q) e free) (drop_lookup_walks now place (lookup_at m.store.records place) refl q)
  dropped_walks m this (PlainInput plain) true named e free q = move (Empties _ this (PlainInput plain) (none_stands q) e free) (move (Spends _ refl) (drop_input_walks (Ok (Ready tt)) plain refl q))
  dropped_walks m this (PlainOutput plain) true named e free q = move (Empties _ this (PlainOutput plain) (none_stands q) e free) (move (Spends _ refl) (drop_plain_output_walks (Ok (Ready tt)) plain refl q))
  dropped_walks m this Network true named e free q = move (Takes _ this (none_stands q) refl free) (gives _ (Spends _ refl))
  dropped_walks m this (Input place) true named e free q = move (Takes _ this (none_stands q) refl free) (gives _ (Spends _ refl))
  dropped_walks m this (Output place) true named e free q =
      let now : Machine = record m { table = without_handle m.table this } in
      move (Reaches _ this place named (ap record_of e)) (move (Takes _ this (none_stands q) refl free) (move (Spends _ refl) (and_then (drop_output_walks (first_ids line) place now (none_stands q) (tcp2_at m.store.records place) refl) (λ done. gives _ (Leaves _)))))
  dropped_walks m this (Pollable w) true named e free q = move (Takes _ this (none_stands q) refl free) (gives _ (Spends _ refl))
  dropped_walks m this (Receive3 end) true named e free q = and_then (drop_end_walks m this Receive end.slot end named (ap end_of e) free q end.socket refl) (λ done. give _)
  dropped_walks m this (Send3 end) true named e free q = and_then (drop_end_walks m this Send end.slot end named (ap end_of e) free q end.socket refl) (λ done. give _)
  dropped_walks m this (Result3 slot) true named e free q =
      let now : Machine = record m { table = without_handle m.table this } in
      move (Empties _ this (Result3 slot) (none_stands q) e free) (move (Spends _ refl) (drop_slot_walks (λ m. (Ok (Ready tt), m)) (λ m. refl) now slot q))
  dropped_walks m this ErrorValue true named e free q = move (Takes _ this (none_stands q) refl free) (gives _ (Spends _ refl))

  pub drop_walks : (m : Machine) (this : ℕ) (k : Option Kind) → Has (handles_of origin) this → kind_at m.table this ≡ k → m.store.standing ≡ None → Walks law (Starts m Unused) OverWith (drop_taken m (first_ids line) (taken_out m.table this k))
  drop_walks m this None named e q = gives _ (Spends _ refl)
  drop_walks m this (Some kind) named e q = dropped_walks m this kind (has_no_child m.table this) named e refl q
