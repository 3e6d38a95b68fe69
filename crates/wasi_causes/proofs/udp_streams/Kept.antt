-- Which address a new incoming stream keeps.
use Rattle.wasi_causes.proofs.Words.{Answered, Entry, IpSocketAddress, IsSome, List, Machine, None, OpId, Option}
use Rattle.wasi_causes.proofs.Words.{Some, SocketAddressFamily, Told, WasiSocketsCtx, [], ap, append_assoc, entry}
use Rattle.wasi_causes.proofs.Words.{inl, inr, own_of, refl, subst, sym, told_addr, ℕ, ◌++◌, ◌∙◌, ◌∷◌, ◌≡◌}
use Rattle.wasi_world.specs.Operation.{remote_told}
use Rattle.wasi_addr.specs.declared.address.SocketAddrUse.TheVariants as usages
use Rattle.wasi_world.specs.declared.call.Call.TheVariants as call
use Rattle.wasi_world.specs.declared.call.Told.TheVariants as told
use Rattle.wasi_records.specs.Records.{open_at}
use Rattle.udp_records.specs.Udp.{open_of}
use Rattle.udp_records.specs.declared.datagrams.Receiving.TheVariants as receiving
use Rattle.udp_records.specs.declared.datagrams.Sending.TheVariants as sending
use Rattle.udp_records.specs.declared.udp.OpenUdp.{OpenUdp}
use Rattle.udp_records.specs.declared.udp.UdpRecord.TheVariants as udp
use Rattle.host_store.specs.Store.{with_open_udp}
use Rattle.wasi_steps.specs.declared.reply.Field.{Field}
use Rattle.wasi_steps.specs.declared.reply.Reply.TheVariants as reply
use Rattle.wasi_steps.specs.declared.guest_call.GuestCall.TheVariants as guest
use Rattle.wasi_steps.specs.declared.guest_call.UdpCall.TheVariants as udp_call
use Rattle.wasi_steps.specs.declared.step.Step.TheVariants as step
use Rattle.wasi_walks.proofs.walks.Udp.{open_is}
use Rattle.wasi_records.specs.Records.{udp2_at}
use Rattle.wasi_causes.proofs.tables.Steps.{its_own}
use Rattle.wasi_causes.specs.KeptAddress.{AreNew, KeepsNone, KeepsReported, NewStreamsKeep, reported}
use Rattle.wasi_causes.specs.StreamCauses.{MakesStreams, StreamsBegin, StreamsConnected, StreamsDisconnected}
use Rattle.wasi_causes.specs.StreamCauses.{StreamsUnchanged, both_marks, disconnect_entry, peer_entry}
use Rattle.wasi_causes.specs.Udp.{OfUdp}
use Rattle.wasi_walks.proofs.Places.{put_finds, udp_sort}

-- what was reported is what the machine makes of it
told_so : (family : SocketAddressFamily) (peer : Told) → remote_told family (told_addr peer) ≡ reported family peer
told_so family (told.Addr a) = refl
told_so family (told.Code c) = refl
told_so family _ = refl

module _ (m : Machine) (own : OpId) (handle place : ℕ) (o : OpenUdp) (remote : Option IpSocketAddress) (at : open_at m.store.records place ≡ Some o) where
  -- what is put there is there
  put_there : (now : OpenUdp) → open_at (with_open_udp m.store place now).records place ≡ Some now
  put_there now = ap open_of (put_finds udp_sort m.store.records place (udp.Open o) (udp.Open now) (open_is (udp2_at m.store.records place) o at))

  -- the peer's entry is the last before the marks
  last_peer : (es front : List Entry) (peer : Told) → es ≡ front ++ peer_entry own o peer ∷ [] → (entries : List Entry)
      → entries ≡ es ++ both_marks own m.table.next handle o
      → entries ≡ (front ++ peer_entry own o peer ∷ []) ++ both_marks own m.table.next handle o
  last_peer es front peer cut entries e = e ∙ ap (λ l. l ++ both_marks own m.table.next handle o) cut

  -- these are new
  are_new : (now : OpenUdp) (kept : Option IpSocketAddress) (after : Machine)
      → open_at after.store.records place ≡ Some now
      → now.incoming ≡ Some (record { remote = now.inner.remote; receiving = receiving.Nothing })
      → now.outgoing ≡ Some (record { permit = 0; sending = sending.Nothing }) → now.inner.remote ≡ kept → AreNew after place kept
  are_new now kept after there incoming outgoing is = record { found = now; at = there; incoming = incoming ∙ ap (λ (a : Option IpSocketAddress). Some (record { remote = a; receiving = receiving.Nothing })) is; outgoing = outgoing; socket = is }

  -- what a connect asks before
  abbrev before_peer : IpSocketAddress → List Entry
  before_peer a = entry own (call.Check o.inner.maker a usages.UdpSend) told.Yes ∷ entry own (call.Check o.inner.maker a usages.UdpReceive) told.Yes ∷ entry own (call.UdpConnect o.inner.side a) told.Done ∷ []

  by_begin : (before entries : List Entry) (now : OpenUdp) (after : Machine)
      → open_at after.store.records place ≡ Some now → entries ≡ before ++ both_marks own m.table.next handle o
      → StreamsBegin own o remote before now → NewStreamsKeep m own handle place o remote entries after
  by_begin _ entries now after there e (StreamsConnected asked a peer is bound may) =
      record { kept = reported o.inner.family peer; is = KeepsReported (asked ++ before_peer a) peer (inl (subst IsSome (sym is) refl)) (last_peer _ (asked ++ before_peer a) peer (sym (append_assoc asked (before_peer a) (peer_entry own o peer ∷ []))) entries e); new = are_new now _ after there refl refl (told_so o.inner.family peer) }
  by_begin _ entries now after there e (StreamsDisconnected asked a peer none has bound) =
      record { kept = reported o.inner.family peer; is = KeepsReported (asked ++ disconnect_entry own o told.Done ∷ []) peer (inr (subst IsSome (sym has) refl)) (last_peer _ (asked ++ disconnect_entry own o told.Done ∷ []) peer (sym (append_assoc asked (disconnect_entry own o told.Done ∷ []) (peer_entry own o peer ∷ []))) entries e); new = are_new now _ after there refl refl (told_so o.inner.family peer) }
  by_begin _ entries now after there e (StreamsUnchanged asked none has bound) = record { kept = None; is = KeepsNone none has; new = are_new now None after there refl refl has }

  made_new : (entries : List Entry) (after : Machine) → MakesStreams m own handle place o remote entries after
      → NewStreamsKeep m own handle place o remote entries after
  made_new entries after k = by_begin k.before entries k.now after (ap (λ (x : Machine). open_at x.store.records place) k.left ∙ put_there k.now) k.asked k.begin

-- of the step
pub streams_keep : (contexts : List WasiSocketsCtx) (m : Machine) (line ctx handle : ℕ) (remote : Option IpSocketAddress) (fields : List Field) (entries : List Entry) (after : Machine) → Answered contexts m line (step.Call ctx (guest.Udp (udp_call.Stream handle remote))) entries (reply.Ok fields) after
    → OfUdp m handle (λ place o. NewStreamsKeep m (own_of line) handle place o remote entries after)
streams_keep contexts m line ctx handle remote fields entries after w =
    let made : OfUdp m handle (λ place o. MakesStreams m (own_of line) handle place o remote entries after) = (its_own contexts m line (step.Call ctx (guest.Udp (udp_call.Stream handle remote))) entries (reply.Ok fields) after w (λ e. cc)).1.1.1.1 in
    record { place = made.place; found = made.found; names = made.names; at = made.at; holds = made_new m (own_of line) handle made.place made.found remote made.at entries after made.holds }
