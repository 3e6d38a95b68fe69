-- What a write is let write, by its reply and by the mark of its output: all that it offers where it is done, and at most that.
use Rattle.wasi_streams.specs.StreamStop as stop
use Rattle.wasi_tcp.specs.Writer.{write_half_asks, write_on_asks, write_state_asks}
use Rattle.wasi_tcp.specs.declared.halves.TcpSendStream.{TcpSendStream}
use Rattle.wasi_tcp.specs.declared.writer.WriteState.TheVariants as writing
use Rattle.wasi_records.specs.Records.{tcp2_at}
use Rattle.host_store.specs.CallStops.{CallStop, Closed, Failed, Traps}
use Rattle.host_store.specs.Jobs.{noted, write_at}
use Rattle.host_store.specs.Kinds.{kind_at, output_of, plain_output_of}
use Rattle.host_streams.specs.StreamCalls.{convert_asks, converted, stopped, write_asks, write_by, write_on}
use Rattle.host_store.specs.declared.kind.Kind.TheVariants.{Output, PlainOutput}
use Rattle.host_store.specs.declared.kind.PlainOutput.{PlainOutput as APlainOutput}
use Rattle.wasi_steps.specs.declared.guest_call.GuestCall.TheVariants as guest
use Rattle.wasi_steps.specs.declared.guest_call.StreamCall.TheVariants as stream_call
use Rattle.wasi_steps.specs.declared.reply.Field.{Field}
use Rattle.wasi_steps.specs.declared.reply.Reply.TheVariants as reply
use Rattle.wasi_steps.specs.declared.step.Step.TheVariants as step
use Rattle.wasi_steps.specs.Reply.{no_values}
use Rattle.wasi_machine.specs.Machine.{stream_reply_of}
use Rattle.host_store.specs.Store.{with_record_put}
use Rattle.wasi_world.specs.declared.outcome.TrapKind.TheVariants.{NotPermitted}
use Rattle.wasi_walks.proofs.Gives.{Gives, given, gives_any, gives_then}
use Rattle.wasi_walks.proofs.licence.Meanings.{one_mark, one_side}
use Rattle.wasi_walks.proofs.licence.Runs.{Fine, begun_licensed, runs_fine}
use Rattle.wasi_walks.proofs.remotes.Along.{same_self, same_true}
use Rattle.wasi_walks.proofs.remotes.State.{WritesBy}
use Rattle.wasi_walks.specs.Licence.{IsLicensed, IsMarkedWith, IsSide}
use Rattle.wasi_laws.proofs.Words.{Answered, Asks, Bool, Entry, Err, Give, IsFrontOf, Kind, new_job, Left, List, Machine, None, Ok, OpId, Option, Reply, Result, Some, Standing, Step, StreamStop, Streams, TcpRecord, WasiSocketsCtx, WriteState, [], ap, append-nil, asks_while, false, first_state, if◌then◌else◌, is_same, length, let_begin, nat_lt, output_at, own_of, permitted_by, permitted_in, record_in, refl, run, stream_at, subst, sym, true, with_store, with_writer, writer_in, writer_of, writer_of_record, ℕ, ⊤, ◌++◌, ◌∙◌, ◌∷◌, ◌≡◌}
use Rattle.wasi_laws.specs.Writes.{let_write, within, writer_at}

-- == what is let begin
-- all of it or nothing
within_front : (permit : ℕ) (bytes : List ℕ) (past same : Bool) → IsFrontOf (let more : List ℕ = if same then if past then [] else bytes else [] in more) bytes
within_front permit bytes true true = (bytes, refl)
within_front permit bytes false true = ([], append-nil bytes)
within_front permit bytes past false = (bytes, refl)

begin_front : (side : OpId) (bytes : List ℕ) (w : Option WriteState) → IsFrontOf (let_begin side bytes w) bytes
begin_front side bytes (Some (writing.Ready half permit)) = within_front permit bytes (nat_lt permit (length bytes)) (is_same half.side side)
begin_front side bytes _ = (bytes, refl)

permitted_front : (m : Machine) (side : OpId) (line ctx output : ℕ) (bytes : List ℕ) (entries : List Entry) (o : Option Standing) → IsFrontOf (permitted_in m side line o (step.Call ctx (guest.Stream (stream_call.Write output bytes))) entries) bytes
permitted_front m side line ctx output bytes entries None = begin_front side bytes (writer_at m output)
permitted_front m side line ctx output bytes entries (Some c) = (bytes, refl)

pub write_front : (m : Machine) (side : OpId) (line ctx output : ℕ) (bytes : List ℕ) (entries : List Entry) → IsFrontOf (permitted_by m side line (step.Call ctx (guest.Stream (stream_call.Write output bytes))) entries) bytes
write_front m side line ctx output bytes entries = permitted_front m side line ctx output bytes entries m.store.standing

-- all of it is let begin, where it is done
abbrev All : {E : Type 0} → OpId → List ℕ → Option WriteState → Result (Unit {0}) E → Type 0
All side bytes x (Ok done) = let_begin side bytes x ≡ bytes
All side bytes x (Err e) = ⊤

-- no bytes begin no write
none_within : (side : OpId) (half : TcpSendStream) (permit : ℕ) → let_begin side [] (Some (writing.Ready half permit)) ≡ []
none_within side half permit = by_tests (is_same half.side side) (nat_lt permit 0)
  where
    by_tests : (same past : Bool) → (let more : List ℕ = if same then if past then [] else [] else [] in more) ≡ []
    by_tests true true = refl
    by_tests true false = refl
    by_tests false past = refl

-- == in a run
module _ (contexts : List WasiSocketsCtx) (steps : List Step) (log : List Entry) (replies : List Reply) (m : Machine) (w : Left (run contexts [] first_state 1 steps) log (Give (replies, m))) where
  pub fine : (line : ℕ) × Fine contexts steps line log m
  fine = runs_fine contexts steps log replies m w

  pub licensed : IsLicensed contexts steps log []
  licensed = begun_licensed contexts steps log (Give (replies, m)) w

  pub output_kind : (k : Option Kind) (place : ℕ) → output_of k ≡ Some place → k ≡ Some (Output place)
  output_kind (Some (Output p)) place e = ap (λ (o : Option ℕ). by_place o) e
    where
      by_place : Option ℕ → Option Kind
      by_place (Some q) = Some (Output q)
      by_place None = None
  output_kind _ place e = absurd (cc)

  -- an output of no connection has no network socket
  pub plain_apart : (output : ℕ) (side : OpId) (k : Option Kind) (plain : APlainOutput) → kind_at m.table output ≡ k → plain_output_of k ≡ Some plain → IsSide log output side → ⊥
  plain_apart output side (Some (PlainOutput o)) plain names e s =
      let none : IsMarkedWith log output None = (fine.1.fine.handles output (PlainOutput o) names).2 in
      let some : IsMarkedWith log output (Some side) = record { op = s.op; kind = s.kind; parent = s.parent; told = s.told; mark = s.mark } in
      let same : (let none : Option OpId = None in none) ≡ Some side = one_mark contexts steps log [] licensed output None (Some side) none some in
      absurd (cc)
  plain_apart output side _ plain names e s = absurd (cc)

  -- a half to write by is of the network socket that its output was marked with
  side_of_half : (output place : ℕ) (r : TcpRecord) (s : Streams) (half : TcpSendStream) (permit : ℕ) → output_at m output ≡ Some place → tcp2_at m.store.records place ≡ Some r → r.streams ≡ Some s → s.writer ≡ writing.Ready half permit → IsSide log output half.side
  side_of_half output place r s half permit names at has is =
      let k = (fine.1.fine.handles output (Output place) (output_kind (kind_at m.table output) place names)).0 in
      let same : k.found ≡ r = (let both : Some k.found ≡ Some r = sym k.at ∙ at in cc) in
      let writes : r.side ≡ Some half.side = subst (WritesBy r.side) is (fine.1.keeps.tcps place r at s has).1 in
      let mark : IsMarkedWith log output (Some half.side) = subst (IsMarkedWith log output) (ap (λ (x : TcpRecord). x.side) same ∙ writes) k.marked in
      record { op = mark.op; kind = mark.kind; parent = mark.parent; told = mark.told; mark = mark.mark }

  module _ (output : ℕ) (bytes : List ℕ) (side : OpId) where
    -- == of another network socket nothing is let write
    module _ (n : IsSide log output side → ⊥) where
      half_none : (half : TcpSendStream) (permit : ℕ) → IsSide log output half.side → let_begin side bytes (Some (writing.Ready half permit)) ≡ []
      half_none half permit t = by_test (is_same half.side side) refl
        where
          by_test : (b : Bool) → is_same half.side side ≡ b → (let more : List ℕ = if b then within permit bytes else [] in more) ≡ []
          by_test false e = refl
          by_test true e = absurd (n (subst (IsSide log output) (same_true half.side side e) t))

      writer_none : (place : ℕ) (r : TcpRecord) (s : Streams) (x : WriteState) → output_at m output ≡ Some place → tcp2_at m.store.records place ≡ Some r → r.streams ≡ Some s → s.writer ≡ x → let_begin side bytes (Some x) ≡ []
      writer_none place r s (writing.Ready half permit) names at has is = half_none half permit (side_of_half output place r s half permit names at has is)
      writer_none place r s _ names at has is = refl

      streams_none : (place : ℕ) (r : TcpRecord) (o : Option Streams) → output_at m output ≡ Some place → tcp2_at m.store.records place ≡ Some r → r.streams ≡ o → let_begin side bytes (writer_in o) ≡ []
      streams_none place r None names at has = refl
      streams_none place r (Some s) names at has = writer_none place r s s.writer names at has refl

      record_none : (place : ℕ) (o : Option TcpRecord) → output_at m output ≡ Some place → tcp2_at m.store.records place ≡ o → let_begin side bytes (writer_of_record o) ≡ []
      record_none place None names at = refl
      record_none place (Some r) names at = streams_none place r r.streams names at refl

      place_none : (o : Option ℕ) → output_at m output ≡ o → let_begin side bytes (writer_of_record (record_in m o)) ≡ []
      place_none None names = refl
      place_none (Some place) names = record_none place (tcp2_at m.store.records place) names refl

      others_let : (line ctx : ℕ) (entries : List Entry) (o : Option Standing) → permitted_in m side line o (step.Call ctx (guest.Stream (stream_call.Write output bytes))) entries ≡ []
      others_let line ctx entries None = place_none (output_at m output) refl
      others_let line ctx entries (Some c) = refl

  -- == of its own all, where the write is done
  module _ (own : OpId) (output : ℕ) (side : OpId) (its : IsSide log output side) where
    abbrev Whole : {E S : Type 0} → List ℕ → Option WriteState → Result (Unit {0}) E × S → Type 0
    Whole bytes x done = All side bytes x done.0

    its_half : (half : TcpSendStream) → IsSide log output half.side → is_same half.side side ≡ true
    its_half half t = subst (λ (x : OpId). is_same half.side x ≡ true) (one_side contexts steps log licensed output half.side side t its) (same_self half.side)

    half_whole : (half : TcpSendStream) (permit : ℕ) (bytes : List ℕ) → IsSide log output half.side → (es : List Entry) → Gives (λ fs done. Whole bytes (Some (writing.Ready half permit)) done) es (write_half_asks own half permit bytes)
    half_whole half permit [] t es = none_within side half permit
    half_whole half permit (b ∷ bytes) t es = by_permit (nat_lt permit (length (b ∷ bytes))) refl
      where
        within_all : nat_lt permit (length (b ∷ bytes)) ≡ false → let_begin side (b ∷ bytes) (Some (writing.Ready half permit)) ≡ b ∷ bytes
        within_all e = rw (its_half half t, e) refl

        says : nat_lt permit (length (b ∷ bytes)) ≡ false → (done : Result (Unit {0}) StreamStop × WriteState) → Whole (b ∷ bytes) (Some (writing.Ready half permit)) done
        says e (Ok x, s) = within_all e
        says e (Err why, s) = tt

        by_permit : (past : Bool) → nat_lt permit (length (b ∷ bytes)) ≡ past
            → Gives (λ fs done. Whole (b ∷ bytes) (Some (writing.Ready half permit)) done) es (if past then Give (Err (stop.Trap NotPermitted), writing.Ready half permit) else write_on_asks own (writing.Writing (new_job own half.side (b ∷ bytes))))
        by_permit true e = tt
        by_permit false e = gives_any (λ fs done. Whole (b ∷ bytes) (Some (writing.Ready half permit)) done) (λ fs done. says e done) es (write_on_asks own (writing.Writing (new_job own half.side (b ∷ bytes))))

    module _ (bytes : List ℕ) where
      writer_whole : (place : ℕ) (r : TcpRecord) (s : Streams) (x : WriteState) → output_at m output ≡ Some place → tcp2_at m.store.records place ≡ Some r → r.streams ≡ Some s → s.writer ≡ x → (es : List Entry) → Gives (λ fs done. Whole bytes (Some x) done) es (write_state_asks own x bytes)
      writer_whole place r s (writing.Ready half permit) names at has is es = half_whole half permit bytes (side_of_half output place r s half permit names at has is) es
      writer_whole place r s (writing.Writing job) names at has is es = tt
      writer_whole place r s (writing.Closing job) names at has is es = tt
      writer_whole place r s (writing.Closed e) names at has is es = tt

      abbrev writes : TcpRecord → Asks (Result (Unit {0}) StreamStop × TcpRecord)
      writes r = writer_of r (λ x. write_state_asks own x bytes) r.streams

      streams_whole : (place : ℕ) (r : TcpRecord) (o : Option Streams) → output_at m output ≡ Some place → tcp2_at m.store.records place ≡ Some r → r.streams ≡ o → (es : List Entry) → Gives (λ fs done. Whole bytes (writer_in o) done) es (writer_of r (λ x. write_state_asks own x bytes) o)
      streams_whole place r None names at has es = tt
      streams_whole place r (Some s) names at has es =
          gives_then (λ fs done. Whole bytes (Some s.writer) done) (λ fs done. Whole bytes (Some s.writer) done) es (write_state_asks own s.writer bytes) (λ done. Give (done.0, with_writer r s done.1)) (writer_whole place r s s.writer names at has refl es) (λ fs done k. k)

      record_whole : (place : ℕ) (o : Option TcpRecord) → output_at m output ≡ Some place → tcp2_at m.store.records place ≡ o → (es : List Entry) → Gives (λ fs done. Whole bytes (writer_of_record o) done) es (stream_at m.store place writes o)
      record_whole place None names at es = tt
      record_whole place (Some r) names at es =
          gives_then (λ fs done. Whole bytes (writer_in r.streams) done) (λ fs done. Whole bytes (writer_in r.streams) done) es (writes r) (λ done. Give (with_record_put m.store place done)) (streams_whole place r r.streams names at refl es) (λ fs done k. k)

      -- a failure is marked
      converted_whole : (place : ℕ) (x : Option WriteState) (es : List Entry) (done : Result (Unit {0}) StreamStop × Machine) → Whole bytes x done → Gives (λ fs told. Whole bytes x told) es (converted own output place done)
      converted_whole place x es (Ok value, now) k = k
      converted_whole place x es (Err why, now) k =
          gives_then (λ fs c. ⊤) (λ fs told. Whole bytes x told) es (convert_asks now own output place why) (λ c. Give (stopped c)) (gives_any (λ fs c. ⊤) (λ fs c. tt) es (convert_asks now own output place why)) (λ fs c t. tt)

      place_whole : (o : Option ℕ) → output_at m output ≡ o → (es : List Entry) → Gives (λ fs done. Whole bytes (writer_of_record (record_in m o)) done) es (write_on m own output writes o)
      place_whole None names es = tt
      place_whole (Some place) names es =
          let x : Option WriteState = writer_of_record (tcp2_at m.store.records place) in
          gives_then (λ fs done. Whole bytes x done) (λ fs told. Whole bytes x told) es (write_at m.store place writes (tcp2_at m.store.records place)) (λ done. converted own output place (with_store m done))
          (gives_then (λ fs done. Whole bytes x done) (λ fs done. Whole bytes x done) es (stream_at m.store place writes (tcp2_at m.store.records place)) (λ done. Give (noted place (tcp2_at m.store.records place) done)) (record_whole place (tcp2_at m.store.records place) names refl es) (λ fs done k. k))
          (λ fs done k. converted_whole place x fs (with_store m done) k)

      by_plain : (o : Option APlainOutput) → plain_output_of (kind_at m.table output) ≡ o → (es : List Entry) → Gives (λ fs done. Whole bytes (writer_at m output) done) es (write_by m own output bytes o)
      by_plain (Some plain) e es = absurd (plain_apart output side (kind_at m.table output) plain refl e its)
      by_plain None e es = place_whole (output_at m output) refl es

  module _ (line ctx output : ℕ) (bytes : List ℕ) (side : OpId) (its : IsSide log output side) where
    -- by the reply
    abbrev Replied : List ℕ → Reply → Type 0
    Replied permitted (reply.Ok fields) = permitted ≡ bytes
    Replied permitted _ = ⊤

    replied : (done : Result (Unit {0}) CallStop × Machine) → Whole (own_of line) output side its bytes (writer_at m output) done → Replied (let_write side m output bytes) (stream_reply_of no_values done.0)
    replied (Ok value, now) k = k
    replied (Err (Failed c e), now) k = tt
    replied (Err Closed, now) k = tt
    replied (Err (Traps kind), now) k = tt

    by_standing : (entries : List Entry) (o : Option Standing) → Gives (λ fs done. Replied (permitted_in m side line o (step.Call ctx (guest.Stream (stream_call.Write output bytes))) entries) done.0) [] (asks_while contexts m line (step.Call ctx (guest.Stream (stream_call.Write output bytes))) o)
    by_standing entries None =
        gives_then (λ fs done. Whole (own_of line) output side its bytes (writer_at m output) done) (λ fs done. Replied (let_write side m output bytes) done.0) [] (write_asks m (own_of line) output bytes) (λ done. Give (stream_reply_of no_values done.0, done.1))
        (by_plain (own_of line) output side its bytes (plain_output_of (kind_at m.table output)) refl []) (λ fs done k. replied done k)
    by_standing entries (Some c) = tt

    pub its_let : (entries : List Entry) (fields : List Field) (after : Machine) → Answered contexts m line (step.Call ctx (guest.Stream (stream_call.Write output bytes))) entries (reply.Ok fields) after → permitted_by m side line (step.Call ctx (guest.Stream (stream_call.Write output bytes))) entries ≡ bytes
    its_let entries fields after a = given (λ fs done. Replied (permitted_by m side line (step.Call ctx (guest.Stream (stream_call.Write output bytes))) entries) done.0) (asks_while contexts m line (step.Call ctx (guest.Stream (stream_call.Write output bytes))) m.store.standing) entries (reply.Ok fields, after) (by_standing entries m.store.standing) a

  pub none_let : (line ctx output : ℕ) (bytes : List ℕ) (side : OpId) (entries : List Entry) → (IsSide log output side → ⊥) → permitted_by m side line (step.Call ctx (guest.Stream (stream_call.Write output bytes))) entries ≡ []
  none_let line ctx output bytes side entries n = others_let output bytes side n line ctx entries m.store.standing
