-- The start of a bind of a UDP socket.
use Rattle.wasi_causes.proofs.Words.{◌≡◌, ◌⊎◌, ◌∙◌, ◌≢◌, inl, inr, ℕ, Bool, true, false, if◌then◌else◌, List, [], ◌∷◌, Result, Ok, Err, refl, sym, subst, ap, Answer, Pending, Ready, IpSocketAddress, ErrorCode, InvalidArgument, InvalidState, Machine, first_ids, own_of, with_store, word_of_code, answer_reply, is_network, kind_at, CodeWord, StandingCall, Give, Given, bind, End, Waits, Done, Refused, Item, Operation, Entry, Told, OpId, Reply, Stop, WasiSocketsCtx}
use Rattle.wasi_addr.specs.Address.{ip_of, is_of_family}
use Rattle.wasi_causes.proofs.operations.Polls.{polled, not_over, bind_never_waits}
use Rattle.wasi_causes.proofs.sockets.Udp.{NamesUdp, its_udp, here_udp, put_udp_back, on_udp_record, UdpBoundRow, ItsBound, ItsFree, udp_bounds}
use Rattle.wasi_causes.proofs.tables.Meets.{Rows, Meets, ends, chain, onto, widen, branch, After, shifted}
use Rattle.wasi_causes.proofs.tables.Routes.{Replied, Says, code_word, not_of_code, apart, none_has}
use Rattle.wasi_causes.specs.Outcomes.{UdpConflicts}
use Rattle.wasi_causes.specs.Polls.{ToldYes, ToldNo, CheckToldPending, UdpBindToldDone, UdpBindToldCode, Polled, WasOver, GoesOn, Stays, Stops}
use Rattle.wasi_causes.specs.Udp.{putting_udp, IsUdpUnbound, udp_local_entry, udp_check_entry, udp_bind_entry, KnowsUdpBound, UdpBindRefusal, UdpBusy, UdpStreamsLive, UdpAlreadyBound, UdpOtherFamily, UdpDenied, UdpBindTold, StartsUdpBind, BindsUdp}
use Rattle.record_common.specs.Binding.{left_of}
use Rattle.wasi_records.specs.Records.{open_at, open_put}
use Rattle.udp_records.specs.Udp.{is_udp_idle, with_udp_progress, udp_bind_ended, udp_bind_begun, begin_udp_bind_asks}
use Rattle.udp_records.specs.Datagrams.{has_streams}
use Rattle.host_store.specs.declared.kind.Interface.TheVariants.{P2}
use Rattle.host_udp.specs.UdpCalls.{udp_call_answered, start_udp_bind_by, start_udp_bind_unless, start_udp_bind_at}
use Rattle.udp_records.specs.declared.udp.OpenUdp.{OpenUdp}
use Rattle.udp_records.specs.declared.udp.UdpInProgress.{UdpInProgress}
use Rattle.udp_records.specs.declared.udp.UdpInProgress.TheVariants as doing
use Rattle.wasi_p2.specs.Options.{record_asks}
use Rattle.wasi_p2.specs.Udp.{start_udp_bind_asks}
use Rattle.wasi_steps.specs.declared.reply.CodeWord.TheVariants as word
use Rattle.wasi_steps.specs.declared.reply.Reply.TheVariants as reply
use Rattle.wasi_steps.specs.declared.guest_call.GuestCall.TheVariants as guest
use Rattle.wasi_steps.specs.declared.guest_call.UdpCall.TheVariants as udp_call
use Rattle.wasi_steps.specs.declared.step.Step.TheVariants as step
use Rattle.wasi_udp.specs.Bind.{bind_operation, bind_start}
use Rattle.wasi_udp.specs.Shape.{Socket}
use Rattle.wasi_udp.specs.Socket.{asker_of}
use Rattle.wasi_udp.specs.declared.bind.UdpBindStage.TheVariants as stage
use Rattle.wasi_walks.specs.Answered.{open_udp_at}
use Rattle.wasi_world.specs.declared.call.Told.TheVariants as told

idle_is : (doing : UdpInProgress) → is_udp_idle doing ≡ true → UdpInProgress.Nothing ≡ doing
idle_is UdpInProgress.Nothing e = refl
idle_is _ e = absurd (cc)

module _ (m : Machine) (own : OpId) (handle place : ℕ) (o : OpenUdp) (n : NamesUdp m handle place o) (a : IpSocketAddress) (idle : is_udp_idle o.in_progress ≡ true) (alone : has_streams o ≡ false) where
  -- why it is refused, and what is left then
  abbrev pub UdpBindRefused : List Entry → CodeWord → Machine → Type 0
  UdpBindRefused es w after = UdpBindRefusal m own place o a es w after × ((after ≡ m) ⊎ ((w ≡ word.InvalidState) × KnowsUdpBound m handle after))

  abbrev pub its : Operation
  its = bind_operation (asker_of own o.inner) a stage.Check

  -- it waits for its check, which is what is left first
  pub record WaitsForCheck (es : List Entry) (now : OpenUdp) : Type 0 where
    pub local : Told
    pub begins : StartsUdpBind o a local
    pub asked : es ≡ udp_local_entry own o.inner local ∷ udp_check_entry own o.inner a told.Pending ∷ []
    pub now_is : now ≡ with_udp_progress o (doing.Binding its)

  -- a bind as it was begun: it is pending, or is done, or is refused
  abbrev pub UdpBindRow : Rows (Result (Answer (Unit {0})) ErrorCode × OpenUdp)
  UdpBindRow es (Ok Pending, now) = WaitsForCheck es now
  UdpBindRow es (Ok (Ready done), now) = BindsUdp m own place o a es (putting_udp m place now)
  UdpBindRow es (Err code, now) = UdpBindRefused es (word_of_code code) (putting_udp m place now)

  stays : (es : List Entry) (code : ErrorCode) → UdpBindRefusal m own place o a es (word_of_code code) m → UdpBindRow es (Err code, o)
  stays es code cause = put_udp_back (UdpBindRefused es (word_of_code code)) m place o n.at (cause, inl refl)

  -- with nothing in progress the socket is as it was
  stays_idle : (es : List Entry) (code : ErrorCode) → UdpBindRefusal m own place o a es (word_of_code code) m → UdpBindRow es (Err code, with_udp_progress o doing.Nothing)
  stays_idle es code cause = subst (λ (now : OpenUdp). UdpBindRow es (Err code, now)) (ap (with_udp_progress o) (sym (idle_is o.in_progress idle))) (stays es code cause)

  module _ (local : Told) (free : IsUdpUnbound o.inner local) where
    abbrev asked : Entry
    asked = udp_local_entry own o.inner local

    module _ (family : is_of_family (ip_of a) o.inner.family ≡ true) where
      begins : StartsUdpBind o a local
      begins = record { idle = idle; alone = alone; unbound = free; family = family }

      refused : (es : List Entry) (code : ErrorCode) (given : Given) (items : List Item) → Polled its.who its.left es (Refused code given, items) → UdpBindRefusal m own place o a (asked ∷ es) (word_of_code code) m
      refused _ _ _ _ (Stops _ _ _ _ (ToldNo _ _)) = UdpDenied local idle free family
      refused _ _ _ _ (GoesOn _ _ _ _ _ (ToldYes _ _) (Stops _ _ _ _ (UdpBindToldCode _ code))) = UdpBindTold local code idle free family
      refused _ _ _ _ (GoesOn _ _ _ _ _ (ToldYes _ _) (GoesOn _ _ _ _ _ passed row)) = absurd (not_over row)

      waits : (es : List Entry) (items : List Item) → Polled its.who its.left es (Waits, items) → (es ≡ udp_check_entry own o.inner a told.Pending ∷ []) × (items ≡ its.left)
      waits _ _ (Stays _ _ _ _ (CheckToldPending _ _)) = (refl, refl)
      waits _ items (GoesOn _ _ _ fs _ _ row) = absurd (bind_never_waits its.who a fs items row)

      over : (es : List Entry) (given : Given) (items : List Item) → Polled its.who its.left es (Done given, items) → es ≡ udp_check_entry own o.inner a told.Yes ∷ udp_bind_entry own o.inner a told.Done ∷ []
      over _ _ _ (GoesOn _ _ _ _ _ (ToldYes _ _) (GoesOn _ _ _ _ _ (UdpBindToldDone _) WasOver)) = refl

      ended : (es : List Entry) (end : End × List Item) → After (Polled its.who its.left) (asked ∷ []) es end → UdpBindRow es (udp_bind_ended its (with_udp_progress o (doing.Binding its)) end)
      ended es (Waits, items) k =
          let w = waits k.rest items k.row in
          record { local = local; begins = begins; asked = k.cut ∙ ap (λ (xs : List Entry). asked ∷ xs) w.0; now_is = ap (λ (left : List Item). with_udp_progress o (doing.Binding (left_of its left))) w.1 }
      ended es (Done given, items) k = record { local = local; begins = begins; asked = k.cut ∙ ap (λ (xs : List Entry). asked ∷ xs) (over k.rest given items k.row); left = refl }
      ended es (Refused code given, items) k = stays_idle es code (rw k.cut (refused k.rest code given items k.row))

    tested : (b : Bool) → is_of_family (ip_of a) o.inner.family ≡ b → Meets UdpBindRow (asked ∷ []) (udp_bind_begun o (if b then Ok its else Err InvalidArgument, o.inner))
    tested true family = onto (udp_bind_ended its (with_udp_progress o (doing.Binding its))) (widen (ended family) (shifted (asked ∷ []) (polled its (tt, (tt, tt)))))
    tested false e = ends (stays _ InvalidArgument (UdpOtherFamily local idle free e))

  by_bound : (es : List Entry) (b : Bool × Socket) → UdpBoundRow own o.inner es b → Meets UdpBindRow es (udp_bind_begun o (bind_start own b.1 a b.0, b.1))
  by_bound _ _ (ItsBound es is) = ends (UdpAlreadyBound es idle is, inr (refl, here_udp n refl))
  by_bound _ _ (ItsFree local free) = tested local free (is_of_family (ip_of a) o.inner.family) refl

  udp_bind_begins : Meets UdpBindRow [] (begin_udp_bind_asks own o a)
  udp_bind_begins = chain {Mid = λ es start. Meets UdpBindRow es (udp_bind_begun o start)} (onto _ (widen by_bound (udp_bounds own o.inner))) (λ es start k. k)

-- == the step
module _ (contexts : List WasiSocketsCtx) (m : Machine) (line c handle network : ℕ) (a : IpSocketAddress) where
  abbrev own : OpId
  own = own_of line

  -- with nothing in progress no answer is that of one that is
  no_conflict : {place : ℕ} {o : OpenUdp} → NamesUdp m handle place o → is_udp_idle o.in_progress ≡ true → (said : Reply) → said ≢ reply.Err word.ConcurrencyConflict → UdpConflicts m handle said
  no_conflict {place} {o} n idle said other = apart other (λ k. let busy : is_udp_idle o.in_progress ≡ false = rw (its_udp n) at k in cc)

  bind_said : (place : ℕ) (o : OpenUdp) (n : NamesUdp m handle place o) (idle : is_udp_idle o.in_progress ≡ true) (alone : has_streams o ≡ false) (es : List Entry) (begun : Result (Answer (Unit {0})) ErrorCode × OpenUdp) → UdpBindRow m own handle place o n a idle alone es begun
      → Replied contexts m line (step.Call c (guest.Udp (udp_call.StartBind handle network a))) (answer_reply line) es (with_store m (udp_call_answered m.store (first_ids line) (StandingCall.UdpBind place P2) begun))
  bind_said place o n idle alone es (Ok Pending, now) h = (
    λ is. no_conflict n idle _ (λ e. cc),
    ((refl, refl), here_udp n (record { local = h.local; begins = h.begins; asked = h.asked; table = refl; records = ap (λ (x : OpenUdp). open_put m.store.records place x) h.now_is; stands = refl })),
  )
  bind_said place o n idle alone es (Ok (Ready done), now) h = (λ is. no_conflict n idle _ (λ e. cc), (tt, here_udp n h))
  bind_said place o n idle alone es (Err code, now) h = (λ is. no_conflict n idle _ (not_of_code code word.ConcurrencyConflict (λ no. no)), (inr (code_word code), (here_udp n h.0, h.1)))

  abbrev StartRow : Rows (Result (Answer (Unit {0})) Stop × Machine)
  StartRow = Replied contexts m line (step.Call c (guest.Udp (udp_call.StartBind handle network a))) (answer_reply line)

  -- while a stream of it is live none begins
  by_streams : (place : ℕ) (o : OpenUdp) → NamesUdp m handle place o → is_udp_idle o.in_progress ≡ true → (b : Bool) → has_streams o ≡ b → Meets (λ es done. StartRow es (with_store m done)) [] (start_udp_bind_unless m.store (first_ids line) place a o b)
  by_streams place o n idle true e = ends (λ is. no_conflict n idle _ (λ same. cc), (inr (code_word InvalidState), (here_udp n (UdpStreamsLive idle e), inl refl)))
  by_streams place o n idle false e = onto _ (widen (bind_said place o n idle e) (udp_bind_begins m own handle place o n a idle e))

  by_progress : (place : ℕ) (o : OpenUdp) → NamesUdp m handle place o → (b : Bool) → is_udp_idle o.in_progress ≡ b → Meets (λ es done. StartRow es (with_store m done)) [] (start_udp_bind_by m.store (first_ids line) place a o b)
  by_progress place o n false e = ends (λ is. (λ same. rw (its_udp n) e, λ k. refl), (inl refl, (here_udp n (UdpBusy e), inl refl)))
  by_progress place o n true e = by_streams place o n e (has_streams o) refl

  pub udp_start_bind : Meets (Says contexts m line (step.Call c (guest.Udp (udp_call.StartBind handle network a)))) [] (bind (start_udp_bind_asks m (first_ids line) handle network a) (λ done. Give (answer_reply line done.0, done.1)))
  udp_start_bind =
      onto _ (branch (is_network (kind_at m.table network))
      (λ is. on_udp_record m handle (λ found. record_asks m (λ place. start_udp_bind_at m.store (first_ids line) place a (open_at m.store.records place)) found) (λ place o. start_udp_bind_at m.store (first_ids line) place a o) refl (λ place. refl) (λ place. refl)
      (λ none. (λ is. apart (λ e. cc) (none_has _ (open_udp_at m handle) none), (inr none, (refl, refl)))) (λ place o n. by_progress place o n (is_udp_idle o.in_progress) refl))
      (λ no. ends (λ is. absurd (cc), (inl no, (refl, refl)))))
