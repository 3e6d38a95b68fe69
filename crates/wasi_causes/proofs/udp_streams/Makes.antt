-- The two handles of datagram streams that are made.
use Rattle.wasi_causes.proofs.Words.{Answer, Entry, Err, Full, HandleTable, List, Machine, Ok, OpId, Option, Ready, Result, Some, Stop, Trap, [], arith, entry, is_full}
use Rattle.wasi_causes.proofs.Words.{inl, inr, kind_at, marks_in, marks_in-push, subst, sym, true, ℕ, ◌+◌, ◌++◌, ◌∷◌, ◌≡◌}
use Rattle.wasi_world.specs.declared.call.Call.TheVariants as call
use Rattle.wasi_world.specs.declared.call.HandleKind.TheVariants as name
use Rattle.wasi_world.specs.declared.call.Told.TheVariants as told
use Rattle.host_udp.specs.DatagramCalls.{mark_streams, mark_streams_of, outgoing_made}
use Rattle.host_store.specs.Kinds.{udp_of}
use Rattle.wasi_records.specs.Records.{udp2_at}
use Rattle.host_udp.specs.UdpCreates.{udp_side_at}
use Rattle.host_store.specs.declared.kind.Kind.TheVariants.{Incoming, Outgoing}
use Rattle.wasi_causes.proofs.tables.Meets.{Meets, Rows, chain, ends, onto}
use Rattle.wasi_causes.proofs.tables.Routes.{makes}
use Rattle.wasi_causes.specs.Datagrams.{LacksRoomForBoth, with_both, with_incoming}

module _ (now : Machine) (own : OpId) (handle place : ℕ) where
  -- the network socket of the socket
  abbrev side : Option OpId
  side = udp_side_at (udp2_at now.store.records place)

  -- the marks, the incoming one's first
  abbrev pub marks_of : List Entry → List Entry
  marks_of es = (es ++ entry own (call.Made now.table.next name.Incoming (Some handle) side) told.Done ∷ []) ++ entry own (call.Made (now.table.next + 1) name.Outgoing (Some handle) side) told.Done ∷ []

  -- they are made, or one of them finds the table full, after those that were made so far
  pub makes_both : {Row : Rows (Result (Answer (ℕ × ℕ)) Stop × Machine)} (es : List Entry) → udp_of (kind_at now.table handle) ≡ Some place → marks_in es ≡ 0
      → ((fs : List Entry) (table : HandleTable) → is_full table ≡ true → table.next ≡ now.table.next + marks_in fs → LacksRoomForBoth now.table place handle → Row fs (Err (Trap Full), record now { table = table }))
      → Row (marks_of es) (Ok (Ready (now.table.next, now.table.next + 1)), record now { table = with_both now.table place handle }) → Meets Row es (mark_streams now own handle)
  makes_both {Row} es names unmarked full row =
      subst (λ (o : Option ℕ). Meets Row es (mark_streams_of now own handle o)) (sym names)
      (chain {Mid = λ fs made. Meets Row fs (outgoing_made now own handle place side made)}
      (makes now.table own (Incoming place) (Some handle) side (λ f. ends (full es now.table f (omega (arith, unmarked)) (inl f)))
      (onto _ (makes (with_incoming now.table place handle) own (Outgoing place) (Some handle) side (λ f. full _ (with_incoming now.table place handle) f next (inr f)) row)))
      (λ fs made k. k))
    where
      next : now.table.next + 1 ≡ now.table.next + marks_in (es ++ entry own (call.Made now.table.next name.Incoming (Some handle) side) told.Done ∷ [])
      next = let p = marks_in-push es (entry own (call.Made now.table.next name.Incoming (Some handle) side) told.Done) in omega (arith, unmarked)
