-- How an end of a stream of 0.3 is closed.
use Rattle.wasi_causes.proofs.Words.{Asks, Bool, Entry, Give, List, Machine, None, OpId, Option, Records, ShutdownType, Some, Streams, TcpRecord, [], ap, false, refl, subst, sym, true, with_socket, ℕ, ◌∙◌, ◌∷◌, ◌≡◌}
use Rattle.wasi_causes.proofs.Words.{Both, Ok, Receive, Send, TcpReceiveStream, TcpSendStream, if◌then◌else◌}
use Rattle.wasi_causes.proofs.GivenBack.{no_job, put_gone}
use Rattle.wasi_causes.proofs.Releases.{Released, releases, shuts}
use Rattle.wasi_causes.proofs.tables.Meets.{Meets, Rows, chain, ends, onto, shifted, widen}
use Rattle.wasi_causes.proofs.tables.Routes.{put_store_same}
use Rattle.wasi_causes.specs.GivenUp.{shut_down, shutdown_entries}
use Rattle.wasi_causes.specs.P3Streams.{ClosedGoes, ClosesEnd, EndGoes, OpenGoes, ReadEndGoes, WriteEndGoes, closing, receive_side, send_side, shut, without_half}
use Rattle.host_tcp.specs.ConnectionEnds.{close_end, drop_end, end_goes, fill, fill_in, let_go, open_by, open_in, shut_at}
use Rattle.host_tcp.specs.Dropping.{left_so, let_go_at}
use Rattle.tcp_records.specs.Ends.{ends_of, half_of, has_half, receive_half, receive_in, send_half, send_in, shut_half}
use Rattle.tcp_records.specs.Holding.{is_held, is_reading, is_writing, let_go_asks, let_go_by}
use Rattle.wasi_records.specs.Records.{tcp2_at, tcp2_put}
use Rattle.tcp_records.specs.Shutdowns.{with_streams}
use Rattle.tcp_records.specs.Slots.{StreamEnd, filled}
use Rattle.wasi_records.specs.Records.{slot_at}
use Rattle.tcp_records.specs.declared.slot.Slot.TheVariants.{Filled, Unfilled}
use Rattle.wasi_records.specs.declared.records.Record.{Record}
use Rattle.tcp_records.specs.declared.slot.Slot.{Slot}
use Rattle.wasi_walks.proofs.PipeLists.{slot_put_same}
use Rattle.wasi_causes.proofs.Words.{inl, inr}
use Rattle.wasi_walks.proofs.Places.{other_put, put_finds, put_stays, slot_sort, tcp_sort}
use Rattle.host_store.specs.Lines.{tcp_in}
use Rattle.host_store.specs.declared.kind.ConnectionEnd.{ConnectionEnd}
use Rattle.wasi_tcp.specs.declared.reader.ReadState.{ReadState}
use Rattle.wasi_tcp.specs.declared.reader.ReadState.TheVariants as reading
use Rattle.wasi_tcp.specs.declared.writer.WriteState.{WriteState}
use Rattle.wasi_tcp.specs.declared.writer.WriteState.TheVariants as writing

-- a slot that is filled leaves each socket as it was
filled_tcp : (ended : StreamEnd) (slot place : ℕ) (store : Records) → tcp2_at (fill ended slot store).records place ≡ tcp2_at store.records place
filled_tcp ended slot place store = by_slot (slot_at store.records slot) refl
  where
    by_slot : (o : Option Slot) → slot_at store.records slot ≡ o → tcp2_at (fill_in ended slot store o).records place ≡ tcp2_at store.records place
    by_slot None e = refl
    by_slot (Some s) e = let same = slot_put_same {new = λ op. ⊥} store.records slot s _ e in same.tcp place

-- == the slot of an end that is closed
module _ (m : Machine) (how : ShutdownType) (slot place : ℕ) (r : TcpRecord) (ended : StreamEnd) (at : tcp2_at m.store.records place ≡ Some r) where
  abbrev its : List Record
  its = (closing m how slot place r ended).store.records

  -- the other records are as they were
  slot_stays : (k : ℕ) → slot_at (tcp2_put m.store.records place (without_half how r)) k ≡ slot_at m.store.records k
  slot_stays k = other_put tcp_sort slot_sort (λ t. refl) m.store.records place r (without_half how r) k at

  -- an unfilled one says what became of the stream
  pub slot_fills : slot_at m.store.records slot ≡ Some Unfilled → slot_at its slot ≡ Some (Filled ended)
  slot_fills e =
      let found : slot_at (tcp2_put m.store.records place (without_half how r)) slot ≡ Some Unfilled = slot_stays slot ∙ e in
      subst (λ (o : Option Slot). slot_at (fill_in ended slot (with_socket m.store place (without_half how r)) o).records slot ≡ Some (Filled ended)) (sym found) (put_finds slot_sort (tcp2_put m.store.records place (without_half how r)) slot Unfilled (Filled ended) found)

  -- and a filled one stays
  pub slot_once : (k : ℕ) (before : StreamEnd) → slot_at m.store.records k ≡ Some (Filled before) → slot_at its k ≡ Some (Filled before)
  slot_once k before e = by_slot (slot_at (tcp2_put m.store.records place (without_half how r)) slot) refl
    where
      found : slot_at (tcp2_put m.store.records place (without_half how r)) k ≡ Some (Filled before)
      found = slot_stays k ∙ e

      by_slot : (o : Option Slot) → slot_at (tcp2_put m.store.records place (without_half how r)) slot ≡ o
          → slot_at (fill_in ended slot (with_socket m.store place (without_half how r)) o).records k ≡ Some (Filled before)
      by_slot None is = found
      by_slot (Some s) is = elim (put_stays slot_sort (tcp2_put m.store.records place (without_half how r)) slot (filled ended s) k (Filled before) found) [
        | inl same ↦ same
        | inr its ↦ (let both : Some s ≡ Some (Filled before) = sym is ∙ (ap (slot_at (tcp2_put m.store.records place (without_half how r))) (sym its.0) ∙ found) in let same : s ≡ Filled before = cc in its.1 ∙ ap (λ (x : Slot). Some (filled ended x)) same)
      ]

module _ (m : Machine) (own side : OpId) (how : ShutdownType) (slot place : ℕ) (r : TcpRecord) (ended : StreamEnd) where
  abbrev CloseRow : Rows (Unit {0} × Records)
  CloseRow es done = ClosesEnd m own side how slot place r ended es (record m { store = done.1 })

  abbrev now : TcpRecord
  now = without_half how r

  abbrev left : Machine
  left = closing m how slot place r ended

  module _ (at : tcp2_at left.store.records place ≡ Some now) where
    held_row : is_held now ≡ true → CloseRow (shut own side how ∷ []) (tt, with_socket left.store place now)
    held_row e =
        subst (λ (store : Records). CloseRow (shut own side how ∷ []) (tt, store)) (sym (put_store_same left.store place now at)) (rw e (refl, refl))

    released_row : is_held now ≡ false → (es : List Entry) (done : Unit {0} × TcpRecord) → Released own now es done.1 → CloseRow (shut own side how ∷ es) (left_so left.store place (true, done.1))
    released_row e es done k =
        rw e (ap (λ (rest : List Entry). shut own side how ∷ rest) k.asked, record { left = put_gone left place (Record.Tcp done.1); job = no_job place left.store.jobs })

    lets_go : (held : Bool) → is_held now ≡ held → Meets (λ es done. CloseRow es (left_so left.store place done)) (shut own side how ∷ []) (let_go_by own now held)
    lets_go true e = ends (held_row e)
    lets_go false e = onto _ (widen (λ es done k. subst (λ (fs : List Entry). CloseRow fs (left_so left.store place (true, done.1))) (sym k.cut) (released_row e k.rest done k.row)) (shifted (shut own side how ∷ []) (releases own now)))

    rests : Meets CloseRow (shut own side how ∷ []) (let_go own place left.store)
    rests = subst (λ (o : Option TcpRecord). Meets CloseRow (shut own side how ∷ []) (let_go_of o)) (sym at) (onto _ (lets_go (is_held now) refl))
      where
        let_go_of : Option TcpRecord → Asks (Unit {0} × Records)
        let_go_of o = let_go_at left.store place (let_go_asks own) o

  by_streams : (o : Option Streams) → r.streams ≡ o → shutdown_entries own how (ends_of o) ≡ shut own side how ∷ []
      → Meets (λ es done. (es ≡ shut own side how ∷ []) × (done.1 ≡ now)) [] (shut_half own how r o)
  by_streams None e asked = absurd (no_half how asked)
    where
      no_half : (how : ShutdownType) → shutdown_entries own how (ends_of None) ≡ shut own side how ∷ [] → ⊥
      no_half Receive e = cc
      no_half Send e = cc
      no_half Both e = cc
  by_streams (Some s) e asked = onto _ (widen (λ es done k. (k.0 ∙ asked, ap (λ (x : Streams). with_streams r x) k.1 ∙ ap (λ (o : Option Streams). without_of o) (sym e))) (shuts own how s))
    where
      without_of : Option Streams → TcpRecord
      without_of o = with_streams r (shut_down how (ends_of o))

  -- of an open half
  pub closes_end : tcp2_at m.store.records place ≡ Some r → shutdown_entries own how (ends_of r.streams) ≡ shut own side how ∷ [] → Meets CloseRow [] (close_end own how slot place ended m.store)
  closes_end at asked = chain {Mid = λ es done. (es ≡ shut own side how ∷ []) × (done.1 ≡ with_socket m.store place now)} shuts_so goes
    where
      of_shut : Option TcpRecord → Asks (Unit {0} × Records)
      of_shut o = shut_at own how place m.store o

      ShutRow : Rows (Unit {0} × Records)
      ShutRow es done = (es ≡ shut own side how ∷ []) × (done.1 ≡ with_socket m.store place now)

      shuts_so : Meets (λ es done. (es ≡ shut own side how ∷ []) × (done.1 ≡ with_socket m.store place now)) [] (shut_at own how place m.store (tcp2_at m.store.records place))
      shuts_so = subst (λ (o : Option TcpRecord). Meets ShutRow [] (of_shut o)) (sym at) (onto _ (widen (λ es done k. (k.0, ap (λ (x : TcpRecord). with_socket m.store place x) k.1)) (by_streams r.streams refl asked)))

      there : tcp2_at left.store.records place ≡ Some now
      there = filled_tcp ended slot place (with_socket m.store place now) ∙ put_finds tcp_sort m.store.records place r now at

      goes : (es : List Entry) (done : Unit {0} × Records) → (es ≡ shut own side how ∷ []) × (done.1 ≡ with_socket m.store place now) → Meets CloseRow es (let_go own place (fill ended slot done.1))
      goes es (done, store) k =
          let same : store ≡ with_socket m.store place now = k.1 in
          let asked : es ≡ shut own side how ∷ [] = k.0 in
          rw same (rw asked (rests there))

-- == an open half
-- what its shutdown asks
pub read_shuts : (own : OpId) (r : TcpRecord) (its : TcpReceiveStream) → receive_half r ≡ Some its → shutdown_entries own Receive (ends_of r.streams) ≡ shut own its.side Receive ∷ []
read_shuts own r its = by_reader (ends_of r.streams)
  where
    by_reader : (s : Streams) → receive_in s.reader ≡ Some its → shutdown_entries own Receive s ≡ shut own its.side Receive ∷ []
    by_reader s = by_state s.reader refl
      where
        by_state : (reader : ReadState) → s.reader ≡ reader → receive_in reader ≡ Some its → shutdown_entries own Receive s ≡ shut own its.side Receive ∷ []
        by_state (reading.Open half) is e = let same : half ≡ its = cc in rw is (rw same refl)
        by_state reading.Closed is e = absurd (cc)

pub write_shuts : (own : OpId) (r : TcpRecord) (its : TcpSendStream) → send_half r ≡ Some its → shutdown_entries own Send (ends_of r.streams) ≡ shut own its.side Send ∷ []
write_shuts own r its = by_writer (ends_of r.streams)
  where
    by_writer : (s : Streams) → send_in s.writer ≡ Some its → shutdown_entries own Send s ≡ shut own its.side Send ∷ []
    by_writer s = by_state s.writer refl
      where
        by_state : (writer : WriteState) → s.writer ≡ writer → send_in writer ≡ Some its → shutdown_entries own Send s ≡ shut own its.side Send ∷ []
        by_state (writing.Ready half permit) is e = let same : half ≡ its = cc in rw is (rw same refl)
        by_state (writing.Writing job) is e = absurd (cc)
        by_state (writing.Closing job) is e = absurd (cc)
        by_state (writing.Closed why) is e = absurd (cc)

-- it is there exactly where its end is open
abbrev IsThere : {H : Type 0} → Bool → Option H → Type 0
IsThere {H} true o = (its : H) × (o ≡ Some its)
IsThere false o = o ≡ None

read_there : (r : TcpRecord) (b : Bool) → has_half Receive r ≡ b → IsThere b (receive_half r)
read_there r = by_state (ends_of r.streams).reader
  where
    by_state : (reader : ReadState) (b : Bool) → is_reading reader ≡ b → IsThere b (receive_in reader)
    by_state (reading.Open half) true e = (half, refl)
    by_state (reading.Open half) false e = absurd (cc)
    by_state reading.Closed true e = absurd (cc)
    by_state reading.Closed false e = refl

write_there : (r : TcpRecord) (b : Bool) → has_half Send r ≡ b → IsThere b (send_half r)
write_there r = by_state (ends_of r.streams).writer
  where
    by_state : (writer : WriteState) (b : Bool) → is_writing writer ≡ b → IsThere b (send_in writer)
    by_state (writing.Ready half permit) true e = (half, refl)
    by_state (writing.Ready half permit) false e = absurd (cc)
    by_state (writing.Writing job) true e = absurd (cc)
    by_state (writing.Writing job) false e = refl
    by_state (writing.Closing job) true e = absurd (cc)
    by_state (writing.Closing job) false e = refl
    by_state (writing.Closed why) true e = absurd (cc)
    by_state (writing.Closed why) false e = refl

-- == the handle of an end goes
module _ {H : Type 0} (m : Machine) (own : OpId) (how : ShutdownType) (half : TcpRecord → Option H) (side : H → OpId) (end : ConnectionEnd)
    (shuts : (r : TcpRecord) (its : H) → half r ≡ Some its → shutdown_entries own how (ends_of r.streams) ≡ shut own (side its) how ∷ [])
    (there : (r : TcpRecord) (b : Bool) → has_half how r ≡ b → IsThere b (half r)) where
  abbrev GoRow : Rows (Unit {0} × Records)
  GoRow es done = EndGoes m own how half side end es (record m { store = done.1 })

  shut_goes : half_of half (tcp_in m end.socket) ≡ None → Meets GoRow [] (Give (tt, m.store))
  shut_goes none = ends (ClosedGoes none)

  module _ (place : ℕ) (named : end.socket ≡ Some place) where
    by_open : (r : TcpRecord) → tcp2_at m.store.records place ≡ Some r → (b : Bool) → has_half how r ≡ b → Meets GoRow [] (end_goes own how end.slot m.store (if b then Some place else None))
    by_open r at false e = shut_goes (ap (λ (x : Option ℕ). half_of half (tcp_in m x)) named ∙ (ap (half_of half) at ∙ there r false e))
    by_open r at true e =
        let its = there r true e in
        widen (λ es done k. OpenGoes es _ (record { place = place; found = r; its = its.0; socket = named; at = at; has = its.1; holds = k }))
        (closes_end m own (side its.0) how end.slot place r (Ok tt) at (shuts r its.0 its.1))

    by_record : (o : Option TcpRecord) → tcp2_at m.store.records place ≡ o → Meets GoRow [] (end_goes own how end.slot m.store (open_by how place o))
    by_record None at = shut_goes (ap (λ (x : Option ℕ). half_of half (tcp_in m x)) named ∙ ap (half_of half) at)
    by_record (Some r) at = by_open r at (has_half how r) refl

  by_socket : (o : Option ℕ) → end.socket ≡ o → Meets GoRow [] (end_goes own how end.slot m.store (open_in how m.store o))
  by_socket None named = shut_goes (ap (λ (x : Option ℕ). half_of half (tcp_in m x)) named)
  by_socket (Some place) named = by_record place named (tcp2_at m.store.records place) refl

  pub end_is_dropped : Meets GoRow [] (drop_end own how end m.store)
  end_is_dropped = by_socket end.socket refl

pub read_end_goes : (m : Machine) (own : OpId) (end : ConnectionEnd) → Meets (λ es done. ReadEndGoes m own end es (record m { store = done.1 })) [] (drop_end own Receive end m.store)
read_end_goes m own end = end_is_dropped m own Receive receive_half receive_side end (read_shuts own) read_there

pub write_end_goes : (m : Machine) (own : OpId) (end : ConnectionEnd) → Meets (λ es done. WriteEndGoes m own end es (record m { store = done.1 })) [] (drop_end own Send end m.store)
write_end_goes m own end = end_is_dropped m own Send send_half send_side end (write_shuts own) write_there
