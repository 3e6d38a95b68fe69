-- In runs a read hands out all that its line was told of the input's network socket, and no other network socket told the line anything.
use Rattle.wasi_causes.proofs.Words.{Answer, Answered, Asks, Bool, CallStop, Entry, Err, ErrorCode, ErrorValue, Give, Input, Kind, Left, List}
use Rattle.wasi_causes.proofs.Words.{Machine, None, Ok, OpId, Option, ReadState, Reply, Result, Some, Standing, Step, StreamStop, Streams}
use Rattle.wasi_causes.proofs.Words.{TcpReceiveStream, TcpRecord, Told, WasiSocketsCtx, [], after_read, ap, append-nil, asks_while, bind}
use Rattle.wasi_causes.proofs.Words.{bytes_fields, converted, false, first_state, if◌then◌else◌, input_at, is_full, kind_at, make_asks, own_of}
use Rattle.wasi_causes.proofs.Words.{read_state_asks, reader_of, refl, run, side_at, stream_at, stream_on, subst, sym, told_bytes, true}
use Rattle.wasi_causes.proofs.Words.{with_reader, with_store, ℕ, ◌++◌, ◌==◌, ◌∙◌, ◌∷◌, ◌≡◌}
use Rattle.wasi_machine.specs.Machine.{stream_reply_of}
use Rattle.std.specs.Prelude.{min}
use Rattle.wasi_world.specs.declared.asks.Polled.{Polled}
use Rattle.wasi_world.specs.declared.asks.Polled.TheVariants as polled
use Rattle.wasi_world.specs.declared.call.Call.TheVariants as call
use Rattle.wasi_world.specs.declared.call.Told.TheVariants as told
use Rattle.wasi_world.specs.declared.outcome.Answer.TheVariants.{Pending, Ready}
use Rattle.wasi_world.specs.Fits.{IsRead}
use Rattle.wasi_world.specs.Typed.{ask_made, ask_read, ask_shutdown}
use Rattle.wasi_addr.specs.declared.address.ShutdownType.TheVariants.{Receive}
use Rattle.host_store.specs.Machine.{with_table}
use Rattle.host_store.specs.Store.{with_record_put}
use Rattle.host_streams.specs.StreamCalls.{failed_made, stopped}
use Rattle.host_store.specs.Kinds.{name_of}
use Rattle.wasi_tcp.specs.Halves.{polled_answer}
use Rattle.wasi_tcp.specs.Reader.{reader_shutdown_asks}
use Rattle.wasi_walks.proofs.licence.Meanings.{one_mark, one_side}
use Rattle.wasi_world.specs.Sides.{is_same}
use Rattle.wasi_streams.specs.StreamStop as stop
use Rattle.wasi_tcp.specs.Halves.{read_asks}
use Rattle.wasi_tcp.specs.Reader.{read_end_asks}
use Rattle.wasi_tcp.specs.declared.reader.ReadState.TheVariants as reading
use Rattle.wasi_records.specs.Records.{tcp2_at}
use Rattle.record_common.specs.Stops.{Code}
use Rattle.host_store.specs.CallStops.{Closed, Failed, Traps}
use Rattle.host_store.specs.Kinds.{plain_input_of}
use Rattle.host_streams.specs.StreamCalls.{convert_asks, read_by}
use Rattle.host_store.specs.declared.kind.Kind.TheVariants.{PlainInput}
use Rattle.host_store.specs.declared.kind.PlainInput.{PlainInput as APlainInput}
use Rattle.wasi_steps.specs.declared.guest_call.GuestCall.TheVariants as guest
use Rattle.wasi_steps.specs.declared.guest_call.StreamCall.TheVariants as stream_call
use Rattle.wasi_steps.specs.declared.step.Step.TheVariants as step
use Rattle.wasi_walks.proofs.licence.Runs.{Fine, begun_licensed, runs_fine}
use Rattle.wasi_walks.proofs.remotes.Along.{same_self, same_true}
use Rattle.wasi_walks.specs.Allowed.{IsSide}
use Rattle.wasi_walks.specs.Licence.{IsLicensed, IsMarkedWith}
use Rattle.wasi_causes.specs.ToldBytes.{handed_out, told_by, told_in}
use Rattle.wasi_causes.proofs.reads.Heard.{Hears, hears_given, hears_if, hears_left, hears_then}
use Rattle.wasi_causes.proofs.streams.ReadsInRuns.{input_kind, side_of_half}

-- the bytes of a result, and of an answer
abbrev given : {E : Type 0} → Result (List ℕ) E → List ℕ
given (Ok bytes) = bytes
given (Err e) = []

abbrev answered : Result (Answer (List ℕ)) ErrorCode → List ℕ
answered (Ok (Ready bytes)) = bytes
answered (Ok Pending) = []
answered (Err c) = []

abbrev polled_bytes : Polled (List ℕ) → List ℕ
polled_bytes (polled.Ready bytes) = bytes
polled_bytes _ = []

-- the network socket's bytes, if they are its
abbrev if_its : Bool → List ℕ → List ℕ
if_its same bytes = if same then bytes else []

none_its : (same : Bool) → [] ≡ if_its same []
none_its true = refl
none_its false = refl

module _ (side : OpId) (same : Bool) where
  abbrev Tells : {E S : Type 0} → List ℕ → Result (List ℕ) E × S → Type 0
  Tells heard done = heard ≡ if_its same (given done.0)

  -- a read of a half, which is the network socket's or isn't
  module _ (own : OpId) (len : ℕ) (half : TcpReceiveStream) (its : is_same half.side side ≡ same) where
    abbrev Told_ : List ℕ → Polled (List ℕ) → Type 0
    Told_ heard p = heard ≡ if_its same (polled_bytes p)

    tells : (n : ℕ) (t : Told) → IsRead n t → Told_ (told_by side (call.Read half.side n) t ++ []) (told_bytes t)
    tells n (told.Bytes bytes) fits = append-nil _ ∙ ap (λ (b : Bool). if_its b bytes) its
    tells n told.Pending fits = none_its same
    tells n (told.Code c) fits = none_its same
    tells n _ fits = absurd fits

    abbrev Answers : List ℕ → Result (Answer (List ℕ)) ErrorCode → Type 0
    Answers heard a = heard ≡ if_its same (answered a)

    by_polled : (heard : List ℕ) (p : Polled (List ℕ)) → Told_ heard p → Answers heard (polled_answer p)
    by_polled heard (polled.Ready bytes) h = h
    by_polled heard polled.Pending h = h
    by_polled heard (polled.Code c) h = h

    read_tells : (n : ℕ) → Hears side Told_ (ask_read own half.side n)
    read_tells n = λ t fits. tells n t fits

    half_tells : Hears side Answers (read_asks own half.side len)
    half_tells = hears_if side Answers (len == 0) _ _ (none_its same) (hears_given side Told_ Answers (ask_read own half.side (min len 65536)) polled_answer by_polled (read_tells (min len 65536)))

    -- the half is released, where it was read to its end
    ends : (heard : List ℕ) (why : StreamStop) → heard ≡ [] → Hears side (λ more done. Tells (heard ++ more) done) (read_end_asks own (reading.Open half) why)
    ends heard why none =
        hears_given side (λ more done. heard ++ more ≡ if_its same []) (λ more done. Tells (heard ++ more) done) (reader_shutdown_asks own (reading.Open half)) (λ done. (Err why, done.1)) (λ more done k. k)
        (hears_given side (λ more done. heard ++ more ≡ if_its same []) (λ more done. heard ++ more ≡ if_its same []) (ask_shutdown own half.side Receive) (λ done. (done, reading.Closed)) (λ more done k. k)
        (λ t fits. append-nil heard ∙ none ∙ none_its same))

    all : (heard : List ℕ) (bytes : List ℕ) → heard ≡ if_its same bytes → heard ++ [] ≡ if_its same bytes
    all heard bytes h = append-nil heard ∙ h

    after_tells : (heard : List ℕ) (a : Result (Answer (List ℕ)) ErrorCode) → Answers heard a → Hears side (λ more done. Tells (heard ++ more) done) (after_read own (reading.Open half) a)
    after_tells heard (Ok Pending) h = all heard [] h
    after_tells heard (Ok (Ready [])) h = ends heard stop.Closed (h ∙ sym (none_its same))
    after_tells heard (Ok (Ready (b ∷ bytes))) h = all heard (b ∷ bytes) h
    after_tells heard (Err c) h = ends heard (stop.Failed c) (h ∙ sym (none_its same))

    open_tells : Hears side Tells (read_state_asks own (reading.Open half) len)
    open_tells = hears_if side Tells (len == 0) _ _ (none_its same) (hears_then side Answers Tells (read_asks own half.side len) (after_read own (reading.Open half)) half_tells after_tells)

  -- a failure is marked
  converts : (m : Machine) (own : OpId) (handle place : ℕ) (heard : List ℕ) (done : Result (List ℕ) StreamStop × Machine) → Tells heard done → Hears side (λ more told. Tells (heard ++ more) told) (converted own handle place done)
  converts m own handle place heard (Ok bytes, now) h = append-nil heard ∙ h
  converts m own handle place heard (Err why, now) h =
      hears_given side (λ more c. heard ++ more ≡ if_its same []) (λ more told. Tells (heard ++ more) told) (convert_asks now own handle place why) stopped (λ more c k. k) (by_stop why)
    where
      by_stop : (why : StreamStop) → Hears side (λ more c. heard ++ more ≡ if_its same []) (convert_asks now own handle place why)
      by_stop (stop.Failed c) =
          hears_given side (λ more made. heard ++ more ≡ if_its same []) (λ more d. heard ++ more ≡ if_its same []) (make_asks now.table own ErrorValue (Some handle) (side_at (tcp2_at now.store.records place))) (λ made. failed_made c (with_table now made)) (λ more made k. k)
          (hears_if side (λ more made. heard ++ more ≡ if_its same []) (is_full now.table) _ _ (append-nil heard ∙ h)
          (hears_given side (λ more made. heard ++ more ≡ if_its same []) (λ more made. heard ++ more ≡ if_its same []) (ask_made own now.table.next (name_of ErrorValue) (Some handle) (side_at (tcp2_at now.store.records place))) _ (λ more made k. k) (λ t fits. append-nil heard ∙ h)))
      by_stop stop.Closed = append-nil heard ∙ h
      by_stop (stop.Trap kind) = append-nil heard ∙ h

-- == in a run
module _ (contexts : List WasiSocketsCtx) (steps : List Step) (log : List Entry) (replies : List Reply) (m : Machine) (w : Left (run contexts [] first_state 1 steps) log (Give (replies, m))) where
  fine : (line : ℕ) × Fine contexts steps line log m
  fine = runs_fine contexts steps log replies m w

  licensed : IsLicensed contexts steps log []
  licensed = begun_licensed contexts steps log (Give (replies, m)) w

  -- an input of no connection has no network socket
  plain_apart : (input : ℕ) (side : OpId) (k : Option Kind) (plain : APlainInput) → kind_at m.table input ≡ k → plain_input_of k ≡ Some plain → IsSide log input side → ⊥
  plain_apart input side (Some (PlainInput i)) plain names e s =
      let none : IsMarkedWith log input None = (fine.1.fine.handles input (PlainInput i) names).2 in
      let some : IsMarkedWith log input (Some side) = record { op = s.op; kind = s.kind; parent = s.parent; told = s.told; mark = s.mark } in
      let same : let none : Option OpId = None in none ≡ Some side = one_mark contexts steps log [] licensed input None (Some side) none some in
      cc
  plain_apart input side _ plain names e s = absurd (cc)

  module _ (own : OpId) (input len : ℕ) (side : OpId) (same : Bool) (agrees : (half : TcpReceiveStream) → IsSide log input half.side → is_same half.side side ≡ same) where
    -- == the stream of the input
    state_tells : (place : ℕ) (r : TcpRecord) (s : Streams) (reader : ReadState) → kind_at m.table input ≡ Some (Input place) → tcp2_at m.store.records place ≡ Some r → r.streams ≡ Some s → s.reader ≡ reader → Hears side (Tells side same) (read_state_asks own reader len)
    state_tells place r s reading.Closed names at has is = none_its same
    state_tells place r s (reading.Open half) names at has is = open_tells side same own len half (agrees half (side_of_half contexts steps log replies m w input place r s half names at has is))

    abbrev reads : TcpRecord → Asks (Result (List ℕ) StreamStop × TcpRecord)
    reads r = reader_of r (λ (reader : ReadState). read_state_asks own reader len) r.streams

    streams_tell : (place : ℕ) (r : TcpRecord) (o : Option Streams) → kind_at m.table input ≡ Some (Input place) → tcp2_at m.store.records place ≡ Some r → r.streams ≡ o → Hears side (Tells side same) (reader_of r (λ (reader : ReadState). read_state_asks own reader len) o)
    streams_tell place r None names at has = none_its same
    streams_tell place r (Some s) names at has = hears_given side (Tells side same) (Tells side same) (read_state_asks own s.reader len) (λ done. (done.0, with_reader r s done.1)) (λ heard done k. k) (state_tells place r s s.reader names at has refl)

    record_tells : (place : ℕ) (o : Option TcpRecord) → kind_at m.table input ≡ Some (Input place) → tcp2_at m.store.records place ≡ o → Hears side (Tells side same) (stream_at m.store place reads o)
    record_tells place None names at = none_its same
    record_tells place (Some r) names at = hears_given side (Tells side same) (Tells side same) (reads r) (with_record_put m.store place) (λ heard done k. k) (streams_tell place r r.streams names at refl)

    place_tells : (o : Option ℕ) → input_at m input ≡ o → Hears side (Tells side same) (stream_on m own input reads o)
    place_tells None names = none_its same
    place_tells (Some place) names =
        hears_then side (Tells side same) (Tells side same) (stream_at m.store place reads (tcp2_at m.store.records place)) (λ done. converted own input place (with_store m done))
        (record_tells place (tcp2_at m.store.records place) (input_kind contexts steps log replies m w (kind_at m.table input) place names) refl) (λ heard done k. converts side same m own input place heard (with_store m done) k)

    -- == the reply
    replied : (heard : List ℕ) (done : Result (List ℕ) CallStop × Machine) → Tells side same heard done → heard ≡ if_its same (handed_out (stream_reply_of bytes_fields done.0))
    replied heard (Ok bytes, now) h = h
    replied heard (Err (Failed c e), now) h = h
    replied heard (Err Closed, now) h = h
    replied heard (Err (Traps kind), now) h = h

    abbrev Replied : List ℕ → Reply × Machine → Type 0
    Replied heard done = heard ≡ if_its same (handed_out done.0)

    stream_replies : Hears side Replied (bind (stream_on m own input reads (input_at m input)) (λ done. Give (stream_reply_of bytes_fields done.0, done.1)))
    stream_replies = hears_given side (Tells side same) Replied (stream_on m own input reads (input_at m input)) (λ done. (stream_reply_of bytes_fields done.0, done.1)) replied (place_tells (input_at m input) refl)

  module _ (line ctx input len : ℕ) (side : OpId) where
    abbrev Its : Bool → List ℕ → Reply × Machine → Type 0
    Its same heard done = heard ≡ if_its same (handed_out done.0)

    abbrev asked : Option APlainInput → Asks (Reply × Machine)
    asked o = bind (read_by m (own_of line) input len o) (λ done. Give (stream_reply_of bytes_fields done.0, done.1))

    -- the network socket is the input's
    its_plain : IsSide log input side → (o : Option APlainInput) → plain_input_of (kind_at m.table input) ≡ o → Hears side (Its true) (asked o)
    its_plain s (Some plain) e = absurd (plain_apart input side (kind_at m.table input) plain refl e s)
    its_plain s None e = stream_replies (own_of line) input len side true (λ half t. subst (λ (x : OpId). is_same half.side x ≡ true) (one_half half t) (same_self half.side))
      where
        one_half : (half : TcpReceiveStream) → IsSide log input half.side → half.side ≡ side
        one_half half t = one_side contexts steps log licensed input half.side side t s

    its_while : IsSide log input side → (o : Option Standing) → Hears side (Its true) (asks_while contexts m line (step.Call ctx (guest.Stream (stream_call.Read input len))) o)
    its_while s None = its_plain s (plain_input_of (kind_at m.table input)) refl
    its_while s (Some c) = refl

    -- or it isn't
    other_plain : (IsSide log input side → ⊥) → (o : Option APlainInput) → Hears side (Its false) (asked o)
    other_plain n (Some plain) =
        hears_given side (λ heard done. heard ≡ []) (Its false) (read_by m (own_of line) input len (Some plain)) (λ done. (stream_reply_of bytes_fields done.0, done.1)) (λ heard done e. e) refl
    other_plain n None = stream_replies (own_of line) input len side false (λ half t. by_test half t (is_same half.side side) refl)
      where
        by_test : (half : TcpReceiveStream) → IsSide log input half.side → (b : Bool) → is_same half.side side ≡ b → is_same half.side side ≡ false
        by_test half t false e = e
        by_test half t true e = absurd (n (subst (IsSide log input) (same_true half.side side e) t))

    other_while : (IsSide log input side → ⊥) → (o : Option Standing) → Hears side (Its false) (asks_while contexts m line (step.Call ctx (guest.Stream (stream_call.Read input len))) o)
    other_while n None = other_plain n (plain_input_of (kind_at m.table input))
    other_while n (Some c) = refl

    module _ (es : List Entry) (r : Reply) (after : Machine) (a : Answered contexts m line (step.Call ctx (guest.Stream (stream_call.Read input len))) es r after) where
      pub its_told : IsSide log input side → told_in side es ≡ handed_out r
      its_told s = hears_left side (Its true) (asks_while contexts m line (step.Call ctx (guest.Stream (stream_call.Read input len))) m.store.standing) es (r, after) (its_while s m.store.standing) a

      pub others_told : (IsSide log input side → ⊥) → told_in side es ≡ []
      others_told n = hears_left side (Its false) (asks_while contexts m line (step.Call ctx (guest.Stream (stream_call.Read input len))) m.store.standing) es (r, after) (other_while n m.store.standing) a
