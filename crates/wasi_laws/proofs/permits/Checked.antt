-- Where a check-write answers a permit, all that was permitted was taken.
use Rattle.wasi_streams.specs.StreamStop as stop
use Rattle.wasi_records.specs.Records.{tcp2_at}
use Rattle.host_store.specs.CallStops.{CallStop, Failed, Closed, Traps}
use Rattle.host_store.specs.Kinds.{kind_at, output_of, plain_output_of}
use Rattle.host_store.specs.Limits.{check_record, most_of}
use Rattle.host_streams.specs.StreamCalls.{check_asks, check_by, convert_asks, converted, plain_output_at, stream_on}
use Rattle.host_store.specs.declared.kind.Kind.TheVariants as kind
use Rattle.host_store.specs.declared.kind.PlainOutput.{PlainOutput}
use Rattle.wasi_steps.specs.declared.reply.Reply.TheVariants as reply
use Rattle.wasi_steps.specs.declared.guest_call.GuestCall.TheVariants as guest
use Rattle.wasi_steps.specs.declared.guest_call.StreamCall.TheVariants as stream_call
use Rattle.wasi_steps.specs.declared.step.Step.TheVariants as step
use Rattle.wasi_laws.proofs.Words.{Answered, Entry, Err, ErrorValue, Give, IsSomeAnd, Kind, Left, List, Machine, Named, None, Ok, OpId, Option, Over, Quiet, Reply, Result, Some, Standing, Starts, StreamStop, Streams, TcpRecord, Unused, WasiSocketsCtx, WriteState, WritesTo, [], ap, append-nil, asks_while, bind, check_write_asks, inl, is_full, make_asks, number_fields, output_at, own_of, permit_reply, quiet_if, quiet_then, reached, record_in, refl, side_at, side_in, side_of, stream_at, subst, sym, taken_in, with_store, writer_in, writer_of, writer_of_record, writer_side, ℕ, ⊤, ◌++◌, ◌<◌, ◌∙◌, ◌≡◌}
use Rattle.wasi_laws.proofs.shapes.Shape.{Lives, HasStreams, StreamsShape, of_writer}
use Rattle.wasi_laws.proofs.shapes.Law.{Shaped}
use Rattle.wasi_laws.proofs.permits.Agreeing.{AgreeIn, Agree, SaysAll, quiet_check}
use Rattle.wasi_laws.proofs.permits.Taken.{Fronts, quiet_keep}

module _ (side : OpId) (taken permitted : List ℕ) (m : Machine) (own : OpId) (output : ℕ) (line : ℕ) (h : (i : ℕ) (r : TcpRecord) → tcp2_at m.store.records i ≡ Some r → Lives side r → AgreeIn taken permitted r) (shaped : Shaped (Over m)) (named : Named line (Starts m Unused)) where
  -- the writer of the output writes to the network socket
  abbrev Writes : Option WriteState → Type 0
  Writes found = IsSomeAnd found (λ w. writer_side w ≡ Some side)

  abbrev Says : {A : Type 0} → Result ℕ StreamStop × A → Type 0
  Says done = SaysAll taken permitted done.0

  abbrev Tells : Result ℕ CallStop × Machine → Type 0
  Tells (Ok n, now) = 0 < n → taken ≡ permitted
  Tells (Err stop, now) = ⊤

  marks : (es : List Entry) (now : Machine) (place : ℕ) → Quiet (λ made. ⊤) es (make_asks now.table own ErrorValue (Some output) (side_at (tcp2_at now.store.records place)))
  unfolding bind
  marks es now place = quiet_if (λ made. ⊤) es (is_full now.table) _ _ (λ full. tt) (λ room. (tt, λ told fits. tt))

  converts : (es : List Entry) (now : Machine) (place : ℕ) (why : StreamStop) → Quiet (λ c. ⊤) es (convert_asks now own output place why)
  converts es now place (stop.Failed c) = quiet_then (λ made. ⊤) (λ c. ⊤) es (make_asks now.table own ErrorValue (Some output) (side_at (tcp2_at now.store.records place))) _ (marks es now place) (λ fs made k. tt)
  converts es now place _ = tt

  tells : (es : List Entry) (place : ℕ) (done : Result ℕ StreamStop × Machine) → Says done → Quiet Tells es (converted own output place done)
  tells es place (Ok n, now) k = k
  tells es place (Err why, now) k =
      quiet_then (λ c. ⊤) Tells es (convert_asks now own output place why) _ (converts es now place why) (λ fs c q. tt)

  says_of : (place : ℕ) (r : TcpRecord) (o : Option Streams) → tcp2_at m.store.records place ≡ Some r → r.streams ≡ o → Writes (writer_in o) → Quiet Says [] (writer_of r (check_write_asks (most_of m.store r) own) o)
  says_of place r None g e w = absurd w
  says_of place r (Some s) g e w =
      let o : HasStreams r.inner.state s = subst (StreamsShape r.inner.state) e (shaped place r g).0 in
      let held : side_of r.inner ≡ Some side = ap side_in o.is ∙ ap (λ (x : OpId). Some x) (of_writer o.connection.side side s.writer o.writer w) in
      quiet_then (λ done. SaysAll taken permitted done.0) Says [] (check_write_asks (most_of m.store r) own s.writer) _ (quiet_check taken permitted (most_of m.store r) [] own s.writer (subst (Agree taken permitted) e (h place r g (named.named side place r g held, inl held)).0)) (λ fs done k. k)

  says_at : (place : ℕ) (o : Option TcpRecord) → tcp2_at m.store.records place ≡ o → Writes (writer_of_record o) → Quiet Says [] (stream_at m.store place (check_record m.store own) o)
  says_at place None g w = absurd w
  says_at place (Some r) g w = quiet_then Says Says [] (check_record m.store own r) _ (says_of place r r.streams g refl w) (λ fs done k. k)

  tells_on : (o : Option ℕ) → Writes (writer_of_record (record_in m o)) → Quiet Tells [] (stream_on m own output (check_record m.store own) o)
  tells_on None w = absurd w
  tells_on (Some place) w =
      let o = tcp2_at m.store.records place in
      quiet_then Says Tells [] (stream_at m.store place (check_record m.store own) o) _ (says_at place o refl w) (λ fs done k. tells fs place (with_store m done) k)

  -- an output of a network socket is none of no connection
  not_plain : (k : Option Kind) (plain : PlainOutput) → plain_output_of k ≡ Some plain → output_of k ≡ None
  not_plain (Some (kind.PlainOutput o)) plain e = refl
  not_plain _ plain e = absurd (cc)

  tells_by : (o : Option PlainOutput) → plain_output_at m output ≡ o → WritesTo m output side → Quiet Tells [] (check_by m own output o)
  tells_by None e w = tells_on (output_at m output) w
  tells_by (Some plain) e w = absurd (subst (λ (o : Option ℕ). Writes (writer_of_record (record_in m o))) (not_plain (kind_at m.table output) plain e) w)

  -- of the reply
  abbrev Replies : Reply × Machine → Type 0
  Replies done = (n : ℕ) → done.0 ≡ reply.Ok (number_fields n) → 0 < n → taken ≡ permitted

  replies : (done : Result ℕ CallStop × Machine) → Tells done → Replies (permit_reply done.0, done.1)
  replies (Ok v, now) k n e l = let same : v ≡ n = cc in k (subst (λ (x : ℕ). 0 < x) (sym same) l)
  replies (Err (Failed c why), now) k n e l = absurd (cc)
  replies (Err Closed, now) k n e l = absurd (cc)
  replies (Err (Traps kind), now) k n e l = absurd (cc)

  check_replies : WritesTo m output side → Quiet Replies [] (bind (check_asks m own output) (λ done. Give (permit_reply done.0, done.1)))
  check_replies w = quiet_then Tells Replies [] (check_asks m own output) _ (tells_by (plain_output_at m output) refl w) (λ fs done k. replies done k)

module _ (contexts : List WasiSocketsCtx) (side : OpId) (taken permitted : List ℕ) (line : ℕ) (m : Machine) (ctx output n : ℕ) (h : (i : ℕ) (r : TcpRecord) → tcp2_at m.store.records i ≡ Some r → Lives side r → AgreeIn taken permitted r) (shaped : Shaped (Over m)) (named : Named line (Starts m Unused)) (w : WritesTo m output side) (some : 0 < n) where
  abbrev IsBusy : List Entry → Reply × Machine → Type 0
  IsBusy es done = done.0 ≡ reply.Busy

  all_by : (standing : Option Standing) (entries : List Entry) (next : Machine) → Left (asks_while contexts m line (step.Call ctx (guest.Stream (stream_call.CheckWrite output))) standing) entries (Give (reply.Ok (number_fields n), next)) → taken ++ taken_in side entries ≡ permitted
  all_by None entries next walk =
      let asks = bind (check_asks m (own_of line) output) (λ done. Give (permit_reply done.0, done.1)) in
      let Q = Replies side taken permitted m (own_of line) output line h shaped named in
      let k = reached (Fronts side permitted) (λ es done. (taken_in side es ≡ []) × Q done) [] asks entries (Give (reply.Ok (number_fields n), next))
      (quiet_keep side permitted Q [] [] asks (permitted, refl) refl (check_replies side taken permitted m (own_of line) output line h shaped named w)) walk in
      ap (λ more. taken ++ more) k.0 ∙ (append-nil taken ∙ k.1 n refl some)
  all_by (Some c) entries next walk =
      let e : reply.Ok (number_fields n) ≡ reply.Busy = reached (λ es o c. ⊤) IsBusy [] (Give (reply.Busy, m)) entries (Give (reply.Ok (number_fields n), next)) refl walk in absurd (cc)

  pub all_taken : (entries : List Entry) (next : Machine) → Answered contexts m line (step.Call ctx (guest.Stream (stream_call.CheckWrite output))) entries (reply.Ok (number_fields n)) next → taken ++ taken_in side entries ≡ permitted
  all_taken entries next walk = all_by m.store.standing entries next walk
