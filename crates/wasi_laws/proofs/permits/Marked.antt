-- Where a check-write on an output that was marked with a network socket gives more than 0, the output writes to it.
use Rattle.wasi_tcp.specs.Writer.{permitted}
use Rattle.wasi_tcp.specs.declared.writer.WriteState.TheVariants as writing
use Rattle.wasi_world.specs.Operation.{Done, Refused, Waits}
use Rattle.wasi_records.specs.Records.{tcp2_at}
use Rattle.host_store.specs.CallStops.{CallStop, Closed, Failed, Traps}
use Rattle.host_store.specs.Kinds.{kind_at, plain_output_of}
use Rattle.host_store.specs.Limits.{check_record, most_of}
use Rattle.host_store.specs.Store.{with_record_put}
use Rattle.host_streams.specs.StreamCalls.{check_asks, check_by, convert_asks, converted, stopped, stream_on}
use Rattle.host_store.specs.declared.kind.Kind.TheVariants.{Output}
use Rattle.host_store.specs.declared.kind.PlainOutput.{PlainOutput}
use Rattle.wasi_steps.specs.declared.guest_call.GuestCall.TheVariants as guest
use Rattle.wasi_steps.specs.declared.guest_call.StreamCall.TheVariants as stream_call
use Rattle.wasi_steps.specs.declared.reply.Reply.TheVariants as reply
use Rattle.wasi_steps.specs.declared.step.Step.TheVariants as step
use Rattle.wasi_machine.specs.Machine.{stream_reply_of}
use Rattle.wasi_walks.proofs.Gives.{Gives, given, gives_any, gives_then}
use Rattle.wasi_walks.proofs.licence.Meanings.{one_side}
use Rattle.wasi_walks.proofs.remotes.State.{WritesBy}
use Rattle.wasi_walks.specs.Licence.{IsMarkedWith, IsSide}
use Rattle.wasi_laws.proofs.Words.{Answered, Asks, End, Entry, Err, Give, Job, Left, List, Machine, None, Ok, OpId, Option, Reply, Result, Some, Standing, Step, StreamStop, Streams, TcpRecord, WasiSocketsCtx, WriteState, WritesTo, IsSomeAnd, [], ap, arith, asks_while, check_write_asks, collected, first_state, look_in, number_fields, output_at, own_of, record_in, refl, run, stream_at, subst, sym, with_store, with_writer, writer_in, writer_of, writer_of_record, writer_side, writing_side, written_by, closed_by, ℕ, ⊤, ◌<◌, ◌∙◌, ◌≡◌}
use Rattle.wasi_laws.proofs.permits.Replied.{fine, licensed, output_kind, plain_apart}

module _ (contexts : List WasiSocketsCtx) (steps : List Step) (log : List Entry) (replies : List Reply) (m : Machine) (w : Left (run contexts [] first_state 1 steps) log (Give (replies, m))) (output : ℕ) (side : OpId) (its : IsSide log output side) where
  -- the network socket that the record of the output was made with is the one
  is_its : (place : ℕ) (r : TcpRecord) (o : OpId) → output_at m output ≡ Some place → tcp2_at m.store.records place ≡ Some r → r.side ≡ Some o → o ≡ side
  is_its place r o names at made =
      let f = fine contexts steps log replies m w in
      let k = (f.1.fine.handles output (Output place) (output_kind contexts steps log replies m w (kind_at m.table output) place names)).0 in
      let same : k.found ≡ r = (let both : Some k.found ≡ Some r = sym k.at ∙ at in cc) in
      let mark : IsMarkedWith log output (Some o) = subst (IsMarkedWith log output) (ap (λ (x : TcpRecord). x.side) same ∙ made) k.marked in
      one_side contexts steps log (licensed contexts steps log replies m w) output o side (record { op = mark.op; kind = mark.kind; parent = mark.parent; told = mark.told; mark = mark.mark }) its

  -- more than 0 only where this writer writes to it
  abbrev Says : {E : Type 0} → Option WriteState → Result ℕ E → Type 0
  Says x (Ok n) = 0 < n → IsSomeAnd x (λ y. writer_side y ≡ Some side)
  Says x (Err e) = ⊤

  abbrev Told : {E S : Type 0} → Option WriteState → Result ℕ E × S → Type 0
  Told x done = Says x done.0

  always : {S : Type 0} (x : WriteState) → writer_side x ≡ Some side → (done : Result ℕ StreamStop × S) → Told (Some x) done
  always x e (Ok n, s) = λ some. e
  always x e (Err why, s) = tt

  asks_always : (most : ℕ) (own : OpId) (x : WriteState) (es : List Entry) → writer_side x ≡ Some side → Gives (λ fs done. Told (Some x) done) es (check_write_asks most own x)
  asks_always most own x es e = gives_any (λ fs done. Told (Some x) done) (λ fs done. always x e done) es (check_write_asks most own x)

  -- what is looked at is this
  looked : (most : ℕ) (own : OpId) (x now : WriteState) (es : List Entry) → collected x ≡ now → Gives (λ fs done. Told (Some x) (permitted most done)) es (look_in own now) → Gives (λ fs done. Told (Some x) done) es (check_write_asks most own x)
  looked most own x now es e h =
      gives_then (λ fs done. Told (Some x) (permitted most done)) (λ fs done. Told (Some x) done) es (look_in own (collected x)) (λ done. Give (permitted most done)) (subst (λ (y : WriteState). Gives (λ fs done. Told (Some x) (permitted most done)) es (look_in own y)) (sym e) h) (λ fs done k. k)

  none_more : (x : Option WriteState) → 0 < 0 → IsSomeAnd x (λ y. writer_side y ≡ Some side)
  none_more x n = absurd (omega arith)

  job_says : (most : ℕ) (own : OpId) (job : Job) (es : List Entry) → job.write.who.side ≡ side → (end : End) → job.end ≡ end → Gives (λ fs done. Told (Some (writing.Writing job)) done) es (check_write_asks most own (writing.Writing job))
  job_says most own job es its Waits e = looked most own (writing.Writing job) (writing.Writing job) es (ap (written_by job) e) (none_more (Some (writing.Writing job)))
  job_says most own job es its (Done g) e = asks_always most own (writing.Writing job) es (ap (writing_side job) e ∙ ap (λ (o : OpId). Some o) its)
  job_says most own job es its (Refused c g) e = looked most own (writing.Writing job) _ es (ap (written_by job) e) tt

  closing_says : (most : ℕ) (own : OpId) (job : Job) (es : List Entry) (end : End) → job.end ≡ end → Gives (λ fs done. Told (Some (writing.Closing job)) done) es (check_write_asks most own (writing.Closing job))
  closing_says most own job es Waits e = looked most own (writing.Closing job) (writing.Closing job) es (ap (closed_by job) e) (none_more (Some (writing.Closing job)))
  closing_says most own job es (Done g) e = looked most own (writing.Closing job) _ es (ap (closed_by job) e) tt
  closing_says most own job es (Refused c g) e = looked most own (writing.Closing job) _ es (ap (closed_by job) e) tt

  module _ (own : OpId) where
    writer_says : (most : ℕ) (place : ℕ) (r : TcpRecord) (s : Streams) (x : WriteState) → output_at m output ≡ Some place → tcp2_at m.store.records place ≡ Some r → r.streams ≡ Some s → s.writer ≡ x → (es : List Entry) → Gives (λ fs done. Told (Some x) done) es (check_write_asks most own x)
    writer_says most place r s (writing.Ready half permit) names at has is es =
        let by : r.side ≡ Some half.side = subst (WritesBy r.side) is ((fine contexts steps log replies m w).1.keeps.tcps place r at s has).1 in
        asks_always most own (writing.Ready half permit) es (ap (λ (o : OpId). Some o) (is_its place r half.side names at by))
    writer_says most place r s (writing.Writing job) names at has is es =
        let by = subst (WritesBy r.side) is ((fine contexts steps log replies m w).1.keeps.tcps place r at s has).1 in
        job_says most own job es (is_its place r job.write.who.side names at by.0) job.end refl
    writer_says most place r s (writing.Closing job) names at has is es = closing_says most own job es job.end refl
    writer_says most place r s (writing.Closed e) names at has is es = looked most own (writing.Closed e) (writing.Closed e) es refl tt

    streams_say : (most : ℕ) (place : ℕ) (r : TcpRecord) (o : Option Streams) → output_at m output ≡ Some place → tcp2_at m.store.records place ≡ Some r → r.streams ≡ o → (es : List Entry) → Gives (λ fs done. Told (writer_in o) done) es (writer_of r (check_write_asks most own) o)
    streams_say most place r None names at has es = tt
    streams_say most place r (Some s) names at has es =
        gives_then (λ fs done. Told (Some s.writer) done) (λ fs done. Told (Some s.writer) done) es (check_write_asks most own s.writer) (λ done. Give (done.0, with_writer r s done.1)) (writer_says most place r s s.writer names at has refl es) (λ fs done k. k)

    abbrev checks : TcpRecord → Asks (Result ℕ StreamStop × TcpRecord)
    checks r = check_record m.store own r

    record_says : (place : ℕ) (o : Option TcpRecord) → output_at m output ≡ Some place → tcp2_at m.store.records place ≡ o → (es : List Entry) → Gives (λ fs done. Told (writer_of_record o) done) es (stream_at m.store place checks o)
    record_says place None names at es = tt
    record_says place (Some r) names at es = gives_then (λ fs done. Told (writer_in r.streams) done) (λ fs done. Told (writer_in r.streams) done) es (checks r) (λ done. Give (with_record_put m.store place done)) (streams_say (most_of m.store r) place r r.streams names at refl es) (λ fs done k. k)

    converted_says : (place : ℕ) (x : Option WriteState) (es : List Entry) (done : Result ℕ StreamStop × Machine) → Told x done → Gives (λ fs told. Told x told) es (converted own output place done)
    converted_says place x es (Ok value, now) k = k
    converted_says place x es (Err why, now) k =
        gives_then (λ fs c. ⊤) (λ fs told. Told x told) es (convert_asks now own output place why) (λ c. Give (stopped c)) (gives_any (λ fs c. ⊤) (λ fs c. tt) es (convert_asks now own output place why)) (λ fs c t. tt)

    place_says : (o : Option ℕ) → output_at m output ≡ o → (es : List Entry) → Gives (λ fs done. Told (writer_of_record (record_in m o)) done) es (stream_on m own output checks o)
    place_says None names es = tt
    place_says (Some place) names es =
        let x : Option WriteState = writer_of_record (tcp2_at m.store.records place) in
        gives_then (λ fs done. Told x done) (λ fs told. Told x told) es (stream_at m.store place checks (tcp2_at m.store.records place)) (λ done. converted own output place (with_store m done)) (record_says place (tcp2_at m.store.records place) names refl es) (λ fs done k. converted_says place x fs (with_store m done) k)

    by_plain : (o : Option PlainOutput) → plain_output_of (kind_at m.table output) ≡ o → (es : List Entry) → Gives (λ fs done. Told (writer_of_record (record_in m (output_at m output))) done) es (check_by m own output o)
    by_plain (Some plain) e es = absurd (plain_apart contexts steps log replies m w output side (kind_at m.table output) plain refl e its)
    by_plain None e es = place_says (output_at m output) refl es

  -- == by the reply
  abbrev Replied : Reply × Machine → Type 0
  Replied done = (n : ℕ) → done.0 ≡ reply.Ok (number_fields n) → 0 < n → WritesTo m output side

  replied : (done : Result ℕ CallStop × Machine) → Told (writer_of_record (record_in m (output_at m output))) done → Replied (stream_reply_of number_fields done.0, done.1)
  replied (Ok v, now) k n e some = let same : v ≡ n = cc in k (subst (λ (x : ℕ). 0 < x) (sym same) some)
  replied (Err (Failed c why), now) k n e some = absurd (cc)
  replied (Err Closed, now) k n e some = absurd (cc)
  replied (Err (Traps kind), now) k n e some = absurd (cc)

  by_standing : (line ctx : ℕ) (o : Option Standing) → Gives (λ fs done. Replied done) [] (asks_while contexts m line (step.Call ctx (guest.Stream (stream_call.CheckWrite output))) o)
  by_standing line ctx None =
      gives_then (λ fs done. Told (writer_of_record (record_in m (output_at m output))) done) (λ fs done. Replied done) [] (check_asks m (own_of line) output) (λ done. Give (stream_reply_of number_fields done.0, done.1)) (by_plain (own_of line) (plain_output_of (kind_at m.table output)) refl []) (λ fs done k. replied done k)
  by_standing line ctx (Some c) = λ n e some. absurd (cc)

  pub writes_to : (line ctx n : ℕ) (entries : List Entry) (next : Machine) → Answered contexts m line (step.Call ctx (guest.Stream (stream_call.CheckWrite output))) entries (reply.Ok (number_fields n)) next → 0 < n → WritesTo m output side
  writes_to line ctx n entries next a some = given (λ fs done. Replied done) (asks_while contexts m line (step.Call ctx (guest.Stream (stream_call.CheckWrite output))) m.store.standing) entries (reply.Ok (number_fields n), next) (by_standing line ctx m.store.standing) a n refl some
