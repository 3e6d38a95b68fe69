-- In runs the bytes that a read hands out are those that its operation's read was told.
use Rattle.wasi_causes.proofs.Words.{◌≡◌, ◌∙◌, ℕ, ◌==◌, Bool, true, false, Answered, Entry, Give, Input, Kind}
use Rattle.wasi_causes.proofs.Words.{Left, List, [], ◌∷◌, ◌++◌, Machine, None, OfStreams, OpId, Option, ReadState}
use Rattle.wasi_causes.proofs.Words.{Reply, Some, Standing, StandingCall, Step, Streams, TcpReceiveStream, TcpRecord}
use Rattle.wasi_causes.proofs.Words.{WasiSocketsCtx, ap, bytes_fields, eqb-true, first_ids, first_state, inl}
use Rattle.wasi_causes.proofs.Words.{inr, input_at, kind_at, nothing_stands, own_of, refl}
use Rattle.wasi_causes.proofs.Words.{run, standing_as, stands_as, subst, sym}
use Rattle.std.specs.Prelude.{IsSomeAnd}
use Rattle.host_store.specs.Kinds.{input_of, plain_input_of}
use Rattle.host_store.specs.declared.store.BlockingCall.{BlockingCall}
use Rattle.host_store.specs.declared.store.BlockingCall.TheVariants as blocking
use Rattle.host_store.specs.declared.kind.Kind.TheVariants.{PlainInput}
use Rattle.host_store.specs.declared.kind.PlainInput.TheVariants as plain_input
use Rattle.wasi_records.specs.Records.{tcp2_at}
use Rattle.wasi_steps.specs.declared.reply.Reply.TheVariants as reply
use Rattle.wasi_steps.specs.declared.guest_call.GuestCall.TheVariants as guest
use Rattle.wasi_steps.specs.declared.guest_call.StreamCall.TheVariants as stream_call
use Rattle.wasi_steps.specs.declared.step.Step.TheVariants as step
use Rattle.wasi_walks.proofs.licence.Runs.{Fine, runs_fine}
use Rattle.wasi_walks.proofs.licence.State.{StreamsStand}
use Rattle.wasi_walks.proofs.remotes.State.{ReadsBy}
use Rattle.wasi_records.specs.declared.records.Record.{Record}
use Rattle.wasi_walks.specs.Allowed.{IsSide}
use Rattle.wasi_walks.specs.Answered.{ReadsTold}
use Rattle.wasi_walks.specs.Licence.{IsMarkedWith, handles_of, step_at}
use Rattle.wasi_causes.proofs.streams.Read.{ends_by_read}
use Rattle.wasi_causes.proofs.Beside.{one_of_three}
use Rattle.wasi_causes.proofs.tables.Steps.{busy_exactly, its_own, while_free}
use Rattle.wasi_addr.specs.declared.address.IpAddress.TheVariants as ip
use Rattle.wasi_addr.specs.declared.address.IpSocketAddress.{IpSocketAddress}
use Rattle.wasi_addr.specs.declared.address.IpSocketAddress.TheVariants as address
use Rattle.wasi_steps.specs.Reply.{address_values}
use Rattle.wasi_steps.specs.declared.reply.Field.TheVariants as field
use Rattle.host_store.specs.Beside.{beside_of}
use Rattle.host_store.specs.declared.beside.Beside.{Beside}
use Rattle.host_store.specs.declared.beside.BesideCall.{BesideCall}
use Rattle.wasi_causes.specs.P3Connects.{BesideEnds, EndsOver, IsLost, StaysPending, IsOver, OverDone, OverFound, OverGone, OverRefused, OverReceived, OverUnresolved}
use Rattle.wasi_causes.specs.Blocking.{EndsByRead, GivesOf}
use Rattle.wasi_causes.specs.HandedBytes.{HandsOutBytes, LastReadTold}
use Rattle.wasi_causes.specs.HandedBytes as handed
use Rattle.wasi_causes.specs.Outcomes.{Outcome}
use Rattle.wasi_causes.specs.Plain.{OfInputPipe}
use Rattle.wasi_causes.specs.Udp.{GivesBy}

module _ (contexts : List WasiSocketsCtx) (steps : List Step) (log : List Entry) (replies : List Reply) (m : Machine)
    (w : Left (run contexts [] first_state 1 steps) log (Give (replies, m))) where
  pub fine : (line : ℕ) × Fine contexts steps line log m
  fine = runs_fine contexts steps log replies m w

  -- == what the mark of an input says
  pub side_of_half : (input place : ℕ) (r : TcpRecord) (s : Streams) (half : TcpReceiveStream) → kind_at m.table input ≡
      Some (Input place) → tcp2_at m.store.records place ≡ Some r → r.streams ≡ Some s → s.reader ≡ ReadState.Open half
      → IsSide log input half.side
  side_of_half input place r s half names at has is =
      let k = (fine.1.fine.handles input (Input place) names).0 in
      let same : k.found ≡ r = (let both : Some k.found ≡ Some r = sym k.at ∙ at in cc) in
      let reads : r.side ≡ Some half.side = subst (ReadsBy r.side) is (fine.1.keeps.tcps place r at s has).0 in
      let mark : IsMarkedWith log input (Some half.side) = subst (IsMarkedWith log input)
      (ap (λ (x : TcpRecord). x.side) same ∙ reads) k.marked in
      record { op = mark.op; kind = mark.kind; parent = mark.parent; told = mark.told; mark = mark.mark }

  pub input_kind : (k : Option Kind) (place : ℕ) → input_of k ≡ Some place → k ≡ Some (Input place)
  input_kind (Some (Input p)) place e = ap (λ (o : Option ℕ). by_place o) e
    where
      by_place : Option ℕ → Option Kind
      by_place (Some q) = Some (Input q)
      by_place None = None
  input_kind _ place e = absurd (cc)

  plain_side : (input : ℕ) (k : Option Kind) (place : ℕ) → kind_at m.table input ≡ k → plain_input_of k ≡ Some
      (plain_input.Pipe place) → IsMarkedWith log input None
  plain_side input (Some (PlainInput i)) place names e = (fine.1.fine.handles input (PlainInput i) names).2
  plain_side input _ place names e = absurd (cc)

  -- == a read of this operation, whether something is pending or not
  module _ (now : Machine) (table : now.table ≡ m.table) (records : now.store.records ≡ m.store.records) (own : OpId)
      (input len : ℕ) (bytes : List ℕ) where
    told_by : (front rest : List Entry) → OfStreams now (input_at now input)
        (λ place r s. ReadsTold own len s.reader bytes rest) → HandsOutBytes log own input bytes (front ++ rest)
    told_by front rest k =
        let told = k.holds in
        let names : input_at m input ≡ Some k.place = subst (λ t. input_of (kind_at t input) ≡ Some k.place) table
        k.names in
        handed.OfConnection (record {
          side = told.half.side;
          of_handle = side_of_half input k.place k.found k.streams told.half
              (input_kind (kind_at m.table input) k.place names)
              (subst (λ (xs : List Record). tcp2_at xs k.place ≡ Some k.found) records k.at) k.has told.is_open;
          size = _;
          front = front;
          cut = ap (λ (es : List Entry). front ++ es) told.asked;
        })

    taken_from : {P : ℕ → List ℕ → Type 0} (es : List Entry) → OfInputPipe now input P → HandsOutBytes log own input
        bytes es
    taken_from es k = handed.OfNoConnection (plain_side input (kind_at m.table input) k.place refl
        (subst (λ t. plain_input_of (kind_at t input) ≡ Some (plain_input.Pipe k.place)) table k.names))

    by_end : (es : List Entry) (after : Machine) (line : ℕ) → own_of line ≡ own → EndsByRead now line input len bytes es
        after → HandsOutBytes log own input bytes es
    by_end es after line is k = subst (HandsOutBytes log own input bytes) (sym k.cut) (elim k.told [
      | inl told ↦ told_by k.front k.rest (subst
          (λ (x : OpId). OfStreams now (input_at now input) (λ place r s. ReadsTold x len s.reader bytes k.rest)) is
          told.0)
      | inr taken ↦ taken_from (k.front ++ k.rest) taken
    ])

  -- the step `read`
  pub read_so : (line ctx input len b : ℕ) (bytes : List ℕ) (es : List Entry) (after : Machine) → Answered contexts m
      line (step.Call ctx (guest.Stream (stream_call.Read input len))) es (reply.Ok (bytes_fields (b ∷ bytes))) after → HandsOutBytes log
      (own_of line) input (b ∷ bytes) es
  read_so line ctx input len b bytes es after a = elim (its_own contexts m line (step.Call ctx (guest.Stream (stream_call.Read input len)))
      es (reply.Ok (bytes_fields (b ∷ bytes))) after a (λ e. cc)).1.1 [
        | inl told ↦ told_by m refl refl (own_of line) input len (b ∷ bytes) [] es told.0
        | inr taken ↦ taken_from m refl refl (own_of line) input len (b ∷ bytes) es taken
      ]

  -- the step `blocking-read`
  pub blocking_so : (line ctx input len b : ℕ) (bytes : List ℕ) (es : List Entry) (after : Machine) → Answered contexts
      m line (step.Call ctx (guest.Stream (stream_call.BlockingRead input len))) es (reply.Ok (bytes_fields (b ∷ bytes))) after →
      HandsOutBytes log (own_of line) input (b ∷ bytes) es
  blocking_so line ctx input len b bytes es after a = by_standing m.store.standing refl
    where
      by_standing : (o : Option Standing) → m.store.standing ≡ o → HandsOutBytes log (own_of line) input (b ∷ bytes) es
      by_standing None e = by_end m refl refl (own_of line) input len (b ∷ bytes) es after line refl (ends_by_read
          contexts m (first_ids line) (blocking.Read input len) ctx input len b bytes es after
          ((while_free contexts m line (step.Call ctx (guest.Stream (stream_call.BlockingRead input len))) e es (reply.Ok (bytes_fields (b ∷
          bytes))) after a).0
          e))
      by_standing (Some s) e = absurd (let busy =
          (busy_exactly contexts m line (step.Call ctx (guest.Stream (stream_call.BlockingRead input len))) es
          (reply.Ok (bytes_fields (b ∷ bytes))) after a).1 (rw e refl, inl refl) in cc)

  -- a poll of it
  module _ (line n ctx input len b : ℕ) (bytes : List ℕ)
      (began : step_at steps n ≡ Some (step.Call ctx (guest.Stream (stream_call.BlockingRead input len)))) (es : List Entry)
      (after : Machine) (a : Answered contexts m line (step.Poll n) es (reply.Ok (bytes_fields (b ∷ bytes))) after)
    where
      row : Outcome contexts m line (step.Poll n) es (reply.Ok (bytes_fields (b ∷ bytes))) after
      row = its_own contexts m line (step.Poll n) es (reply.Ok (bytes_fields (b ∷ bytes))) after a (λ e. cc)

      -- what is pending is a read
      is_read : (call : BlockingCall) → GivesOf call (bytes_fields (b ∷ bytes)) → (i : ℕ) × (l : ℕ) ×
          (call ≡ blocking.Read i l)
      is_read (blocking.Read i l) k = (i, l, refl)
      is_read (blocking.Skip i l) k = absurd (let e = k.1 in cc)
      is_read (blocking.Splice to from l) k = absurd (let e = k.1 in cc)
      is_read (blocking.Poll ps) k = absurd (let e = k.2 in cc)
      is_read _ k = absurd (cc)

      -- of the handle that its line names
      its_input : (s : Standing) (i l : ℕ) → m.store.standing ≡ Some s → s.call ≡ StandingCall.Blocking
          (blocking.Read i l) → s.ids.line ≡ n → i ≡ input
      its_input s i l e is same =
          let began_by = subst (λ (call : StandingCall). StreamsStand steps s.ids.line call) is
          (fine.1.fine.standing s e).1 in
          let origin : began_by.origin ≡ step.Call ctx (guest.Stream (stream_call.BlockingRead input len)) = (let both : Some began_by.origin ≡
          Some (step.Call ctx (guest.Stream (stream_call.BlockingRead input len))) = sym began_by.at ∙ (ap (step_at steps) same ∙ began) in
          cc) in
          let named : handles_of began_by.origin ≡ i ∷ [] = began_by.holds.1 in
          let its : handles_of (step.Call ctx (guest.Stream (stream_call.BlockingRead input len))) ≡ i ∷ [] = subst
          (λ (x : Step). handles_of x ≡ i ∷ []) origin named in
          cc

      by_call : (s : Standing) → m.store.standing ≡ Some s → s.ids.line ≡ n → (call : StandingCall) → s.call ≡ call →
          GivesBy m (bytes_fields (b ∷ bytes)) after call → HandsOutBytes log (own_of n) input (b ∷ bytes) es
      by_call s e same (StandingCall.Blocking call) is k =
          let read = is_read call k.0 in
          let its : s.call ≡ StandingCall.Blocking (blocking.Read read.0 read.1) = is ∙ ap
          (λ (c : BlockingCall). StandingCall.Blocking c) read.2 in
          let stands : m.store.standing ≡ Some (standing_as s.ids (StandingCall.Blocking (blocking.Read read.0 read.1))) =
          e ∙ ap (λ (c : StandingCall). Some (standing_as s.ids c)) its in
          let ends = ends_by_read contexts (nothing_stands m) s.ids (blocking.Read read.0 read.1) 0 read.0 read.1 b bytes
          es after (row.0.2 0 s.ids (blocking.Read read.0 read.1) stands same tt) in
          subst (λ (i : ℕ). HandsOutBytes log (own_of n) i (b ∷ bytes) es) (its_input s read.0 read.1 e its same)
          (by_end (nothing_stands m) refl refl (own_of n) read.0 read.1 (b ∷ bytes) es after s.ids.line (ap own_of same)
          ends)
      by_call s e same (StandingCall.UdpCreate place face) is k = absurd (let f = k.0 in cc)
      by_call s e same (StandingCall.UdpConnect place handle) is k = absurd (let f = k.0 in cc)
      by_call s e same (StandingCall.Listen place (Some handle)) is k = absurd (let f = k.0 in cc)
      by_call s e same (StandingCall.Listen place None) is k = absurd (let f = k in cc)
      by_call s e same _ is k = absurd (let f = k.0 in cc)

      -- it is the exclusive call
      none_over : (said : Reply) → IsOver said → said ≡ reply.Ok (bytes_fields (b ∷ bytes)) → ⊥
      none_over _ OverDone e = cc
      none_over _ (OverRefused code) e = cc
      none_over _ OverGone e = cc
      none_over _ (OverFound []) e = cc
      none_over _ (OverFound (ip.Ipv4 a ∷ addresses)) e = cc
      none_over _ (OverFound (ip.Ipv6 a ∷ addresses)) e = cc
      none_over _ OverUnresolved e = cc
      none_over _ (OverReceived d) e = by_address d.remote_address e
        where
          by_address : (a : IpSocketAddress) → reply.Ok (address_values a ++ field.Bytes d.bytes ∷ []) ≡ reply.Ok (bytes_fields (b ∷ bytes)) → ⊥
          by_address (address.Ipv4 a) e = cc
          by_address (address.Ipv6 a) e = cc

      none_other : stands_as m.store.standing n ≡ false → ⊥
      none_other other = one_of_three m n (λ on. let off = other in cc) (λ none. let k = row.0.0.1 none in cc)
          (λ beside. by_beside (beside_of m.store n) (row.0.3 beside).ends)
        where
          by_end : {its : BesideCall} {said : Reply} {now : Machine} → BesideEnds m n its said now → said ≡ reply.Ok (bytes_fields (b ∷ bytes)) → ⊥
          by_end (StaysPending now still) e = cc
          by_end (EndsOver said now over gone) e = none_over said over e
          by_end (IsLost none) e = cc

          by_beside : (o : Option Beside) → IsSomeAnd o (λ c. BesideEnds m n c.call (reply.Ok (bytes_fields (b ∷ bytes))) after) → ⊥
          by_beside None k = k
          by_beside (Some c) k = by_end k refl

      by_stands : (o : Option Standing) → m.store.standing ≡ o → IsSomeAnd o
          (λ s. GivesBy m (bytes_fields (b ∷ bytes)) after s.call) → HandsOutBytes log (own_of n) input (b ∷ bytes) es
      by_stands None e k = absurd k
      by_stands (Some s) e k = by_line (s.ids.line == n) refl
        where
          by_line : (x : Bool) → (s.ids.line == n) ≡ x → HandsOutBytes log (own_of n) input (b ∷ bytes) es
          by_line true same = by_call s e (eqb-true s.ids.line n same) s.call refl k
          by_line false other = absurd (none_other (ap (λ (o : Option Standing). stands_as o n) e ∙ other))

      pub polled_so : HandsOutBytes log (own_of n) input (b ∷ bytes) es
      polled_so = elim row.1.1 [ inl gives ↦ by_stands m.store.standing refl gives | inr beside ↦ absurd (none_other beside.0.0) ]
