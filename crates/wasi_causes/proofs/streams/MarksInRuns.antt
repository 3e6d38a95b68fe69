-- In runs handles of marks rise; an accept marks the next three; a read that fails is of its stream's network socket.
use Rattle.wasi_causes.proofs.Words.{◌≡◌, ◌∙◌, ℕ, ◌+◌, ◌++◌, ◌∷◌, [], Answered, Asks, Entry, Give, Left, List, Machine, OpId}
use Rattle.wasi_causes.proofs.Words.{None, Option, Reply, Some, Standing, StandingCall, Step, TcpRecord, WasiSocketsCtx, ap, arith, bytes_fields, entry, first_ids, first_state}
use Rattle.wasi_causes.proofs.Words.{inl, input_at, kind_at, own_of, refl, run, standing_as, subst, sym, Field, CodeWord}
use Rattle.std.specs.Prelude.{◌<◌}
use Rattle.wasi_world.specs.declared.call.Call.TheVariants as call
use Rattle.wasi_world.specs.declared.call.HandleKind.TheVariants as name
use Rattle.wasi_world.specs.declared.call.Told.TheVariants as told
use Rattle.wasi_records.specs.Records.{tcp2_at}
use Rattle.wasi_steps.specs.declared.guest_call.GuestCall.TheVariants as guest
use Rattle.wasi_steps.specs.declared.guest_call.TcpCall.TheVariants as tcp_call
use Rattle.wasi_steps.specs.declared.guest_call.StreamCall.TheVariants as stream_call
use Rattle.wasi_steps.specs.declared.reply.Reply.TheVariants as reply
use Rattle.wasi_steps.specs.declared.step.Step.TheVariants as step
use Rattle.wasi_steps.specs.Reply.{triple_fields}
use Rattle.wasi_walks.proofs.Words.{append_assoc}
use Rattle.wasi_walks.proofs.licence.Runs.{Fine, begun_licensed, runs_fine}
use Rattle.wasi_walks.proofs.remotes.State.{ReadsBy}
use Rattle.wasi_walks.specs.Answered.{FailsWith, OfStreams, ReadFails, read_entry, shut_entry}
use Rattle.wasi_walks.specs.Licence.{marks_in}
use Rattle.wasi_walks.specs.Listens.{AcceptsAt, accepted_marks}
use Rattle.wasi_world.specs.declared.ids.Ids.{Ids}
use Rattle.host_store.specs.declared.store.BlockingCall.TheVariants as blocking
use Rattle.wasi_causes.proofs.tables.Steps.{busy_exactly, its_own, while_free}
use Rattle.wasi_causes.proofs.streams.ErrorMarks.{failed_read}
use Rattle.wasi_causes.proofs.streams.ReadsInRuns.{input_kind, side_of_half}
use Rattle.wasi_causes.specs.Blocking.{AsRead, ReadsOn}
use Rattle.wasi_causes.specs.ErrorMarks.{MarksItsSocket}
use Rattle.wasi_causes.specs.Marks.{FailsAtLast, FailsOnItsSide, MarksThree, TwoMarks}

-- == marks
marks_both : (es fs : List Entry) → marks_in (es ++ fs) ≡ marks_in es + marks_in fs
marks_both [] fs = omega arith
marks_both (e ∷ es) fs = let k = marks_both es fs in omega (arith, k)

pub marks_rise : (contexts : List WasiSocketsCtx) (steps : List Step) (log : List Entry) (rest : Asks (List Reply × Machine)) (first second : ℕ)
    → Left (run contexts [] first_state 1 steps) log rest → TwoMarks log first second → first < second
marks_rise contexts steps log rest first second w k =
    let licensed = begun_licensed contexts steps log rest w in
    let mark : Entry = entry k.op (call.Made first k.kind k.parent k.sock) k.told in
    let next : Entry = entry k.other (call.Made second k.name k.above k.side) k.answer in
    let one : first ≡ marks_in k.front + 1 = (licensed.each k.front mark (k.between ++ next ∷ k.back) k.cut).0 in
    let two : second ≡ marks_in (k.front ++ mark ∷ k.between) + 1 = (licensed.each (k.front ++ mark ∷ k.between) next k.back (k.cut ∙ sym (append_assoc k.front (mark ∷ k.between) (next ∷ k.back)))).0 in
    let sum : marks_in (k.front ++ mark ∷ k.between) ≡ marks_in k.front + (1 + marks_in k.between) = marks_both k.front (mark ∷ k.between) in
    omega (arith, one, two, sum)

-- == in a run
module _ (contexts : List WasiSocketsCtx) (steps : List Step) (log : List Entry) (replies : List Reply) (m : Machine)
    (w : Left (run contexts [] first_state 1 steps) log (Give (replies, m))) where
  fine : (line : ℕ) × Fine contexts steps line log m
  fine = runs_fine contexts steps log replies m w

  count : m.table.next ≡ marks_in log + 1
  count = fine.1.fine.count

  pub accept_so : (line ctx listener : ℕ) (fields : List Field) (es : List Entry) (after : Machine) → AcceptsAt m listener
      → Answered contexts m line (step.Call ctx (guest.Tcp (tcp_call.Accept listener))) es (reply.Ok fields) after
      → MarksThree log (own_of line) listener fields es
  accept_so line ctx listener fields es after accepts a =
      let its = (its_own contexts m line (step.Call ctx (guest.Tcp (tcp_call.Accept listener))) es (reply.Ok fields) after a (λ e. cc)).1.1 in
      let k = its.takes accepts in
      record {
        side = k.holds.side;
        front = k.holds.front;
        cut = k.holds.asked ∙ ap (λ (n : ℕ). k.holds.front ++ accepted_marks (own_of line) listener n k.holds.side) count;
        gives = its.numbers ∙ ap (λ (n : ℕ). triple_fields n (n + 1) (n + 2)) count ∙ rests;
      }
    where
      rests : triple_fields (marks_in log + 1) (marks_in log + 1 + 1) (marks_in log + 1 + 2) ≡ triple_fields (marks_in log + 1) (marks_in log + 2) (marks_in log + 3)
      rests = let p : marks_in log + 1 + 1 ≡ marks_in log + 2 = omega arith in let q : marks_in log + 1 + 2 ≡ marks_in log + 3 = omega arith in
          ap (λ (n : ℕ). triple_fields (marks_in log + 1) n (marks_in log + 1 + 2)) p ∙ ap (λ (n : ℕ). triple_fields (marks_in log + 1) (marks_in log + 2) n) q

  -- the last entries are the same
  last_is : (before front : List Entry) (a b x y : Entry) → a ∷ b ∷ x ∷ [] ≡ front ++ y ∷ [] → x ≡ y
  last_is before [] a b x y e = absurd (cc)
  last_is before (c ∷ []) a b x y e = absurd (cc)
  last_is before (c ∷ d ∷ []) a b x y e = cc
  last_is before (c ∷ d ∷ f ∷ front) a b x y e = absurd (by_rest front (cc))
    where
      by_rest : (front : List Entry) → [] ≡ front ++ y ∷ [] → ⊥
      by_rest [] e = cc
      by_rest (z ∷ zs) e = cc

  -- whatever is pending
  abbrev Pends : Option Standing → Machine
  Pends pending = record m { store = record m.store { standing = pending } }

  failed_while : (pending : Option Standing) (line ctx stream len : ℕ) (es : List Entry) (word : CodeWord) (handle : ℕ) (after : Machine)
      → Answered contexts (Pends pending) line (step.Call ctx (guest.Stream (stream_call.Read stream len))) es (reply.Failed word handle) after
      → FailsOnItsSide log (own_of line) stream word es
  failed_while pending line ctx stream len es word handle after a =
      let k : OfStreams (Pends pending) (input_at m stream) (λ place r s. FailsWith (Pends pending) (own_of line) stream (ReadFails (own_of line) len s.reader) es word handle × _) =
      (its_own contexts (Pends pending) line (step.Call ctx (guest.Stream (stream_call.Read stream len))) es (reply.Failed word handle) after a (λ e. cc)).1.1 in
      let fails = k.holds.0 in
      let reads = fails.cause in
      let marks : MarksItsSocket (Pends pending) (own_of line) stream (input_at m stream) es = failed_read contexts (Pends pending) line stream es word handle after ctx len a in
      let kind = input_kind contexts steps log replies m w (kind_at m.table stream) k.place k.names in
      let same : marks.place ≡ k.place = (let p : Some marks.place ≡ Some k.place = sym marks.names ∙ k.names in cc) in
      let found : marks.found ≡ k.found = (let p : Some marks.found ≡ Some k.found = sym marks.at ∙ (ap (λ (n : ℕ). tcp2_at m.store.records n) same ∙ k.at) in cc) in
      let of_record : k.found.side ≡ Some reads.half.side = subst (ReadsBy k.found.side) reads.is_open (fine.1.keeps.tcps k.place k.found k.at k.streams k.has).0 in
      let its : marks.found.side ≡ Some reads.half.side = ap (λ (r : TcpRecord). r.side) found ∙ of_record in
      let r : Entry = read_entry (own_of line) len reads.half (told.Code fails.code) in
      let s : Entry = shut_entry (own_of line) reads.half in
      let x : Entry = entry (own_of line) (call.Made m.table.next name.ErrorValue (Some stream) fails.side) fails.told in
      let y : Entry = entry (own_of line) (call.Made m.table.next name.ErrorValue (Some stream) marks.found.side) told.Done in
      let cut : es ≡ r ∷ s ∷ x ∷ [] = fails.marked ∙ ap (λ (before : List Entry). before ++ x ∷ []) reads.asked in
      let last : x ≡ y = last_is [] marks.before r s x y (sym {b = r ∷ s ∷ x ∷ []} cut ∙ marks.cut) in
      record {
        side = reads.half.side;
        of_handle = side_of_half contexts steps log replies m w stream k.place k.found k.streams reads.half kind k.at k.has reads.is_open;
        size = _;
        code = fails.code;
        word_is = fails.word_is;
        cut = cut ∙ ap (λ (e : Entry). r ∷ s ∷ e ∷ []) (last ∙ (ap (λ (side : Option OpId). entry (own_of line) (call.Made m.table.next name.ErrorValue (Some stream) side) told.Done) its
            ∙ ap (λ (n : ℕ). entry (own_of line) (call.Made n name.ErrorValue (Some stream) (Some reads.half.side)) told.Done) count));
      }

  pub failed_so : (line ctx stream len : ℕ) (es : List Entry) (word : CodeWord) (handle : ℕ) (after : Machine)
      → Answered contexts m line (step.Call ctx (guest.Stream (stream_call.Read stream len))) es (reply.Failed word handle) after
      → FailsOnItsSide log (own_of line) stream word es
  failed_so line ctx stream len es word handle after a = failed_while m.store.standing line ctx stream len es word handle after a

  -- a call that blocks, as it fails
  reads_on : (pending : Option Standing) (ids : Ids) (ctx stream len : ℕ) (es : List Entry) (word : CodeWord) (handle : ℕ) (after : Machine)
      → ReadsOn contexts (Pends pending) ids (blocking.Read stream len) stream len (step.Call ctx (guest.Stream (stream_call.Read stream len))) (reply.Ok (bytes_fields [])) es (reply.Failed word handle) after
      → FailsAtLast log (own_of ids.line) stream word es
  reads_on pending ids ctx stream len _ word handle _ (AsRead es fs _ after look w other) =
      record { front = es; rest = fs; cut = refl; fails = failed_while pending ids.line ctx stream len fs word handle after w }

  pub blocking_failed_so : (line ctx stream len : ℕ) (es : List Entry) (word : CodeWord) (handle : ℕ) (after : Machine)
      → Answered contexts m line (step.Call ctx (guest.Stream (stream_call.BlockingRead stream len))) es (reply.Failed word handle) after
      → FailsAtLast log (own_of line) stream word es
  blocking_failed_so line ctx stream len es word handle after a = by_standing m.store.standing refl
    where
      by_standing : (o : Option Standing) → m.store.standing ≡ o → FailsAtLast log (own_of line) stream word es
      by_standing None e = reads_on m.store.standing (first_ids line) ctx stream len es word handle after
          ((while_free contexts m line (step.Call ctx (guest.Stream (stream_call.BlockingRead stream len))) e es (reply.Failed word handle) after a).0 e)
      by_standing (Some s) e = absurd (let busy =
          (busy_exactly contexts m line (step.Call ctx (guest.Stream (stream_call.BlockingRead stream len))) es (reply.Failed word handle) after a).1 (rw e refl, inl refl) in cc)

  -- and a poll of it
  pub polled_failed_so : (line stream len : ℕ) (ids : Ids) (es : List Entry) (word : CodeWord) (handle : ℕ) (after : Machine)
      → m.store.standing ≡ Some (standing_as ids (StandingCall.Blocking (blocking.Read stream len)))
      → Answered contexts m line (step.Poll ids.line) es (reply.Failed word handle) after
      → FailsAtLast log (own_of ids.line) stream word es
  polled_failed_so line stream len ids es word handle after stands a =
      reads_on None ids 0 stream len es word handle after
      ((its_own contexts m line (step.Poll ids.line) es (reply.Failed word handle) after a (λ e. cc)).0.2 0 ids (blocking.Read stream len) stands refl tt)
