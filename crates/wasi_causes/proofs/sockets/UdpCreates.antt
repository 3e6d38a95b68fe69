-- A create of a UDP socket, and how a socket that is made gets its handle.
use Rattle.wasi_causes.proofs.Words.{◌≡◌, ◌∙◌, ℕ, true, List, [], ◌∷◌, ◌++◌, Option, Some, None, Result, Ok, Err, refl, sym, subst, ap, length, Answer, Pending, Ready, Full, IsSomeAnd, Standing, Trap, AccessDenied, ErrorCode, SocketAddressFamily, Machine, first_ids, own_of, context_at, entry, name_of, number_fields, with_handle, is_full, marks_in, Give, Given, bind, IsDoneOrCode, told_done, End, Waits, Done, Refused, Item, Entry, Told, OpId, WasiSocketsCtx}
use Rattle.wasi_causes.proofs.operations.Polls.{polled, not_over}
use Rattle.wasi_causes.proofs.tables.Meets.{Rows, Meets, ends, asks, chain, onto, widen, branch, After, shifted}
use Rattle.wasi_causes.proofs.tables.Routes.{Says, makes, full_so, code_word}
use Rattle.wasi_causes.specs.Outcomes.{FullAfter, LeavesUdpSocket, OnlyWhere}
use Rattle.wasi_causes.specs.Polls.{WritableToldDone, WritableToldPending, WritableToldCode, Polled, WasOver, GoesOn, Stays, Stops}
use Rattle.wasi_causes.specs.Udp.{udp_create_entry, writable_entry, with_udp_record, new_udp, CreateStandsFor, CreatesUdpFor, UdpCreateFails, UdpNotAllowed, UdpCreateTold, UdpWritableTold}
use Rattle.wasi_records.specs.Records.{udp2_at, udp2_put, udp2_pushed}
use Rattle.udp_records.specs.Udp.{udp_side, udp_create_ended}
use Rattle.host_udp.specs.UdpCreates.{with_create, create_answered, poll_create_at, mark_udp, create_so, create_on, create_begun, create_udp, create_udp_asks}
use Rattle.host_store.specs.BaseStops.{BaseStop}
use Rattle.host_store.specs.Kinds.{udp_kind}
use Rattle.host_store.specs.declared.kind.Interface.{Interface}
use Rattle.host_store.specs.declared.kind.Interface.TheVariants.{P2, P3}
use Rattle.wasi_p3.specs.Udp as p3
use Rattle.record_common.specs.Stops.{Code}
use Rattle.wasi_causes.specs.GivenUp.{giving_back}
use Rattle.wasi_records.specs.declared.records.Record.{Record}
use Rattle.udp_records.specs.declared.udp.UdpRecord.{UdpRecord}
use Rattle.udp_records.specs.declared.udp.UdpRecord.TheVariants as udp
use Rattle.wasi_machine.specs.Machine.{answer_reply_of, p3_answer_reply}
use Rattle.wasi_steps.specs.declared.guest_call.GuestCall.TheVariants as guest
use Rattle.wasi_steps.specs.declared.guest_call.UdpCall.TheVariants as udp_call
use Rattle.wasi_steps.specs.declared.guest_call.P3UdpCall.TheVariants as p3_udp_call
use Rattle.wasi_steps.specs.declared.step.Step.TheVariants as step
use Rattle.wasi_udp.specs.Create.{Create, new_create, after_create, new_asks, with_left}
use Rattle.wasi_world.specs.Operation.{UdpWritable}
use Rattle.wasi_world.specs.declared.call.Call.TheVariants as call
use Rattle.wasi_world.specs.declared.call.Told.TheVariants as told
use Rattle.wasi_walks.proofs.Places.{push_finds, udp_sort}

-- == the record that joined last
pub put_last : (xs : List Record) (old now : UdpRecord) → udp2_put (udp2_pushed xs old) (length xs) now ≡ udp2_pushed xs now
put_last [] old now = refl
put_last (x ∷ xs) old now = ap (λ (rest : List Record). x ∷ rest) (put_last xs old now)

-- == a handle for a socket that is made
pub marks_udp : {Row : Rows (Result (Answer ℕ) BaseStop × Machine)} {es : List Entry} (face : Interface) (m : Machine) (place : ℕ) (u : UdpRecord) → udp2_at m.store.records place ≡ Some u → (is_full m.table ≡ true → Row es (Err (Trap Full), m))
    → Row (es ++ entry (udp_side u) (call.Made m.table.next (name_of (udp_kind face place)) None (Some (udp_side u))) told.Done ∷ []) (Ok (Ready m.table.next), record m { table = with_handle m.table (udp_kind face place) None }) → Meets Row es (mark_udp face m place (udp2_at m.store.records place))
marks_udp {Row} {es} face m place u at full row = subst (λ (o : Option UdpRecord). Meets Row es (mark_udp face m place o)) (sym at) (onto _ (makes m.table (udp_side u) (udp_kind face place) None (Some (udp_side u)) full row))

-- == a create, of either interface
module _ (m : Machine) (line : ℕ) (ctx : WasiSocketsCtx) (family : SocketAddressFamily) where
  abbrev own : OpId
  own = own_of line

  abbrev its : Create
  its = new_create own ctx.name family

  abbrev begun : Entry
  begun = udp_create_entry own ctx family told.Done

  -- it may use UDP
  only : ctx.udp ≡ true → {es : List Entry} {after : Machine} → OnlyWhere ctx.udp m es after
  only may denied = absurd (cc)

  -- one that may not is refused
  only_fails : (es : List Entry) (code : ErrorCode) (after : Machine) → UdpCreateFails m own ctx family es code after → OnlyWhere ctx.udp m es after
  only_fails _ _ _ (UdpNotAllowed barred) = λ other. (refl, refl)
  only_fails _ _ _ (UdpCreateTold c may) = only may
  only_fails _ _ _ (UdpWritableTold c may) = only may

  -- == its first poll
  abbrev PollRow : Rows (End × List Item)
  PollRow = Polled its.operation.who its.operation.left

  waits : (es : List Entry) (items : List Item) → PollRow es (Waits, items) → (es ≡ writable_entry own told.Pending ∷ []) × (items ≡ UdpWritable ∷ [])
  waits _ _ (Stays _ _ _ _ WritableToldPending) = (refl, refl)
  waits _ items (GoesOn _ _ es fs _ _ row) = elim row [ ]

  over : (es : List Entry) (given : Given) (items : List Item) → PollRow es (Done given, items) → es ≡ writable_entry own told.Done ∷ []
  over _ _ _ (GoesOn _ _ _ _ _ WritableToldDone WasOver) = refl

  refused : ctx.udp ≡ true → (es : List Entry) (code : ErrorCode) (given : Given) (items : List Item) → PollRow es (Refused code given, items) → UdpCreateFails m own ctx family (begun ∷ es) code (giving_back (with_udp_record m (udp.Closed own)) (length m.store.records))
  refused may _ _ _ _ (Stops _ _ _ _ (WritableToldCode code)) = UdpWritableTold code may
  refused may _ _ _ _ (GoesOn _ _ _ _ _ passed row) = absurd (not_over row)

  abbrev place : ℕ
  place = length m.store.records

  abbrev now : Machine
  now = with_create m its

  -- its record is the last one
  put_so : (u : UdpRecord) → record now { store = record now.store { records = udp2_put now.store.records place u } } ≡ with_udp_record m u
  put_so u = ap (λ (rs : List Record). let left : Machine = record m { store = record m.store { records = rs } } in left) (put_last m.store.records (udp.Creating its) u)

  module _ (face : Interface) {Row : Rows (Result (Answer ℕ) BaseStop × Machine)} (fails : (es : List Entry) (code : ErrorCode) (after : Machine) → UdpCreateFails m own ctx family es code after → Row es (Err (Code code), after))
      (pends : (es : List Entry) (after : Machine) → ctx.udp ≡ true → CreateStandsFor face m line own ctx family es after → Row es (Ok Pending, after))
      (fills : (es : List Entry) (after : Machine) → ctx.udp ≡ true → FullAfter m es after → LeavesUdpSocket m line ctx family es after → Row es (Err (Trap Full), after))
      (makes_one : (es : List Entry) (after : Machine) → ctx.udp ≡ true → CreatesUdpFor face m own ctx family es (number_fields m.table.next) after → Row es (Ok (Ready m.table.next), after)) where
    polled_so : ctx.udp ≡ true → (es : List Entry) (end : End × List Item) → After PollRow (begun ∷ []) es end → Meets Row es (create_so face (first_ids line) place now (create_answered now.store place (udp_create_ended its end)))
    polled_so may es (Waits, items) k =
        let w = waits k.rest items k.row in
        ends (pends es _ may (record {
          asked = k.cut ∙ ap (λ (xs : List Entry). begun ∷ xs) w.0;
          table = refl;
          records = put_last m.store.records (udp.Creating its) _ ∙ ap (λ (left : List Item). udp2_pushed m.store.records (udp.Creating (with_left its left))) w.1;
          stands = refl;
        }))
    polled_so may es (Done given, items) k =
        let asked : es ≡ begun ∷ writable_entry own told.Done ∷ [] = k.cut ∙ ap (λ (xs : List Entry). begun ∷ xs) (over k.rest given items k.row) in
        let its_machine = put_so (new_udp own ctx family) in
        subst (λ (x : Machine). Meets Row es (mark_udp face x place (udp2_at x.store.records place))) (sym its_machine)
        (marks_udp face (with_udp_record m (new_udp own ctx family)) place (new_udp own ctx family) (push_finds udp_sort m.store.records (new_udp own ctx family))
        (λ full. fills es _ may (full_so m (with_udp_record m (new_udp own ctx family)) es full refl (ap marks_in asked)) (full, asked, refl))
        (makes_one _ _ may (record { number = refl; asked = ap (λ (xs : List Entry). xs ++ entry own (call.Made m.table.next (name_of (udp_kind face place)) None (Some own)) told.Done ∷ []) asked; left = refl })))
    polled_so may es (Refused code given, items) k =
        ends (subst (λ (x : Machine). Row es (Err (Code code), x)) (sym (ap (λ (x : Machine). giving_back x place) (put_so (udp.Closed own)))) (fails es code _ (rw k.cut (refused may k.rest code given items k.row))))

    polls : ctx.udp ≡ true → Meets Row (begun ∷ []) (create_on face now (first_ids line) place)
    polls may =
        chain {Mid = λ es done. Meets Row es (create_so face (first_ids line) place now done)}
        (subst (λ (o : Option UdpRecord). Meets (λ es done. Meets Row es (create_so face (first_ids line) place now done)) (begun ∷ []) (poll_create_at now.store place o)) (sym (push_finds udp_sort m.store.records (udp.Creating its)))
        (onto _ (onto _ (widen (polled_so may) (shifted (begun ∷ []) (polled its.operation (tt, tt)))))))
        (λ es done k. k)

    -- == its start
    told_create : ctx.udp ≡ true → (t : Told) → IsDoneOrCode t → Meets Row (udp_create_entry own ctx family t ∷ []) (create_begun face m (first_ids line) (after_create own ctx.name family (told_done t)))
    told_create may told.Done fits = polls may
    told_create may (told.Code code) fits = ends (fails _ code m (UdpCreateTold code may))
    told_create may _ fits = absurd fits

    started : Meets (λ es made. Meets Row es (create_begun face m (first_ids line) made)) [] (new_asks own ctx family)
    unfolding bind
    started = branch ctx.udp (λ may. asks (λ t fits. ends (told_create may t fits))) (λ no. ends (ends (fails [] AccessDenied m (UdpNotAllowed no))))

    pub creates_udp : Meets Row [] (create_udp face m (first_ids line) ctx family)
    creates_udp = chain {Mid = λ es made. Meets Row es (create_begun face m (first_ids line) made)} started (λ es made k. k)

-- it is pending under its line's number
stands_under : (face : Interface) (m : Machine) (line : ℕ) (ctx : WasiSocketsCtx) (family : SocketAddressFamily) (es : List Entry) (after : Machine) → CreateStandsFor face m line (own_of line) ctx family es after → IsSomeAnd after.store.standing (λ call. call.ids.line ≡ line)
stands_under face m line ctx family es after k = subst (λ (o : Option Standing). IsSomeAnd o (λ call. call.ids.line ≡ line)) (sym k.stands) refl

module _ (contexts : List WasiSocketsCtx) (m : Machine) (line c : ℕ) (family : SocketAddressFamily) where
  abbrev ctx : WasiSocketsCtx
  ctx = context_at contexts c

  pub udp_create : Meets (Says contexts m line (step.Call c (guest.Udp (udp_call.Create family)))) [] (bind (create_udp_asks m (first_ids line) ctx family) (λ done. Give (answer_reply_of number_fields line done.0, done.1)))
  udp_create =
      onto _ (onto _ (creates_udp m line ctx family P2 (λ es code after k. (only_fails m line ctx family es code after k, (code_word code, record { code = code; is = refl; cause = k })))
      (λ es after may k. (only m line ctx family may, ((refl, stands_under P2 m line ctx family es after k), k)))
      (λ es after may full left. (only m line ctx family may, (tt, full, left)))
      (λ es after may k. (only m line ctx family may, ((tt, tt), k)))))

  pub p3_udp_create : Meets (Says contexts m line (step.Call c (guest.P3Udp (p3_udp_call.Create family)))) [] (bind (p3.create (first_ids line) ctx family m) (λ done. Give (p3_answer_reply number_fields line done.0, done.1)))
  p3_udp_create =
      onto _ (onto _ (creates_udp m line ctx family P3 (λ es code after k. (only_fails m line ctx family es code after k, (record { code = code; is = refl }, record { code = code; is = refl; cause = k })))
      (λ es after may k. (only m line ctx family may, ((refl, stands_under P3 m line ctx family es after k), k)))
      (λ es after may full left. (only m line ctx family may, (tt, full, left)))
      (λ es after may k. (only m line ctx family may, ((tt, tt), k)))))
