-- What a poll of the pending call gives, whichever that is: it is over, fails, or is pending still.
use Rattle.wasi_causes.specs.Blocking.{IsBlocking}
use Rattle.wasi_causes.specs.Outcomes.{BlockedGoesOn}
use Rattle.host_store.specs.Beside.{stands_under}
use Rattle.wasi_causes.proofs.Beside.{exclusive_call, not_beside, not_both}
use Rattle.wasi_causes.specs.P3Connects.{BesidePolled, IsBeside}
use Rattle.wasi_causes.proofs.Words.{◌⊎◌, Answer, CallFails, CallWaits, CodeWord, Entry, Err, ErrorCode, IsOnNothing}
use Rattle.wasi_causes.proofs.Words.{IsSomeAnd, List, Machine, NoSuchHandle, None, Ok, Option, Pending, PendingCallsFit, Ready, Records, Reply, Result, Some}
use Rattle.wasi_causes.proofs.Words.{Standing, StandingCall, Stop, TcpRecord, WasiSocketsCtx, [], ap, call_answered, call_place, eq-eqb, false, inl}
use Rattle.wasi_causes.proofs.Words.{inr, no_fields, nothing_stands, own_of, refl, resumed}
use Rattle.wasi_causes.proofs.Words.{resumed_reply, standing_as, stands_as, subst, sym, true, unstood, with_socket, with_store, word_of_code, ℕ, ⊤, ◌∙◌, ◌≡◌, ◌≢◌}
use Rattle.wasi_world.specs.declared.ids.Ids.{Ids}
use Rattle.wasi_causes.proofs.tables.Meets.{Rows}
use Rattle.wasi_steps.specs.declared.reply.CodeWord.TheVariants as word
use Rattle.wasi_causes.proofs.tables.Routes.{apart, code_word}
use Rattle.wasi_causes.specs.Outcomes.{Outcome, Always}
use Rattle.wasi_causes.specs.Failed.{left_failed}
use Rattle.wasi_causes.specs.Udp.{GivesBy}
use Rattle.wasi_host.specs.Pending.{gone_on}
use Rattle.host_store.specs.declared.kind.Interface.TheVariants.{P2, P3}
use Rattle.wasi_walks.specs.Waiting.{word_for}
use Rattle.wasi_causes.specs.MayAnswer.{IsCodeWord, IsP3Word}
use Rattle.wasi_host.specs.declared.pending.Outcome.{Outcome as Given}
use Rattle.host_store.specs.declared.store.StandingCall.TheVariants.{Bind, Listen, DropOutput}
use Rattle.wasi_steps.specs.declared.reply.Reply.TheVariants as reply
use Rattle.wasi_steps.specs.declared.step.Step.TheVariants as step

-- it gives nothing where it is done
abbrev pub IsOfNoCreate : StandingCall → Type 0
IsOfNoCreate (StandingCall.UdpCreate place face) = ⊥
IsOfNoCreate (StandingCall.UdpConnect place handle) = ⊥
IsOfNoCreate (Listen place (Some handle)) = ⊥
IsOfNoCreate (StandingCall.Blocking call) = ⊥
IsOfNoCreate _ = ⊤

pub gives_none : (m after : Machine) (call : StandingCall) → IsOfNoCreate call → after.table ≡ m.table → GivesBy m no_fields after call
gives_none m after (StandingCall.UdpCreate place face) plain same = absurd plain
gives_none m after (StandingCall.UdpConnect place handle) plain same = absurd plain
gives_none m after (StandingCall.Blocking call) plain same = absurd plain
gives_none m after (StandingCall.DropOutgoing place) plain same = (refl, same)
gives_none m after (Bind place face) plain same = (refl, same)
gives_none m after (Listen place None) plain same = (refl, same)
gives_none m after (Listen place (Some handle)) plain same = absurd plain
gives_none m after (DropOutput place) plain same = (refl, same)
gives_none m after (StandingCall.UdpBind place face) plain same = (refl, same)
gives_none m after (StandingCall.UdpConnect3 place) plain same = (refl, same)

-- the words of its codes: those of its interface
may_word : (call : StandingCall) (code : ErrorCode) → let w : CodeWord = word_for call code in IsCodeWord w ⊎ (IsP3Word w ⊎ (w ≡ word.NameUnresolvable))
may_word (Bind place P3) code = inr (inl (record { code = code; is = refl }))
may_word (Listen place (Some handle)) code = inr (inl (record { code = code; is = refl }))
may_word (Bind place P2) code = inl (code_word code)
may_word (StandingCall.UdpBind place P3) code = inr (inl (record { code = code; is = refl }))
may_word (StandingCall.UdpBind place P2) code = inl (code_word code)
may_word (StandingCall.UdpConnect3 place) code = inr (inl (record { code = code; is = refl }))
may_word (StandingCall.UdpCreate place P3) code = inr (inl (record { code = code; is = refl }))
may_word (StandingCall.UdpCreate place P2) code = inl (code_word code)
may_word _ code = inl (code_word code)

the_same : {x y : Standing} → Some x ≡ Some y → x ≡ y
the_same e = cc

module _ (contexts : List WasiSocketsCtx) (m : Machine) (line : ℕ) (ids : Ids) where
  -- its number
  abbrev pub n : ℕ
  n = ids.line

  abbrev pub Row : Rows (Reply × Machine)
  Row es done = Outcome contexts m line (step.Poll n) es done.0 done.1

  abbrev pub ResumedRow : Rows (Result (Option (Answer Given)) Stop × Machine)
  ResumedRow es done = Row es (resumed_reply n done.0, done.1)

  abbrev pub GoneRow : Rows (Result (Answer Given) Stop × Machine)
  GoneRow es done = ResumedRow es (resumed done)

  abbrev pub CallRow : Rows (Result (Answer (Unit {0})) Stop × Records)
  CallRow es done = GoneRow es (gone_on (with_store (nothing_stands m) done))

  abbrev pub Under : StandingCall → Type 0
  Under call = m.store.standing ≡ Some (standing_as ids call)

  -- nothing is pending any more
  abbrev pub free : Records
  free = unstood m.store

  -- == a call is pending
  module _ (call : StandingCall) (stands : Under call) (other_call : IsBlocking call → ⊥) where
    its_on : stands_as m.store.standing n ≡ true
    its_on = ap (λ (o : Option Standing). stands_as o n) stands ∙ eq-eqb n n refl

    pub stands_so : stands_under m.store n ≡ false → ⊥
    stands_so none = not_both (stands_under m.store n) (exclusive_call m n its_on) none

    none_beside : (es : List Entry) (r : Reply) (after : Machine) → IsBeside m n → BesidePolled m n es r after
    none_beside es r after beside = absurd (not_beside m n its_on beside)

    -- it is no call that blocks
    no_blocking : (es : List Entry) (r : Reply) (after : Machine) → BlockedGoesOn contexts m n es r after
    no_blocking es r after c other its on same short = let is : call ≡ StandingCall.Blocking its = ap (λ (s : Standing). s.call) (the_same (sym stands ∙ on)) in absurd (other_call (subst IsBlocking (sym is) tt))

    pub it_ends : (es : List Entry) (r : Reply) (after : Machine) → r ≢ reply.NoSuchCall → after.store.standing ≡ None → Always contexts m line (step.Poll n) es r after
    it_ends es r after other none = (apart other stands_so, λ same. inr none, no_blocking es r after, none_beside es r after)

    pub done : (es : List Entry) (after : Machine) → after.store.standing ≡ None → GivesBy m no_fields after call → Row es (reply.Ok no_fields, after)
    done es after none gives = (it_ends es (reply.Ok no_fields) after (λ e. cc) none, (inl (inl tt), inl (subst (λ (o : Option Standing). IsSomeAnd o (λ s. GivesBy m no_fields after s.call)) (sym stands) gives)))

    -- it failed with this code, and left this machine
    abbrev pub FailsSo : List Entry → ErrorCode → Machine → Type 0
    FailsSo es code after = (why : CallFails m es call code) × (after ≡ left_failed m why)

    pub fails : (es : List Entry) (after : Machine) (code : ErrorCode) → after.store.standing ≡ None → after.table ≡ m.table → (PendingCallsFit m → FailsSo es code after) → Row es (reply.Err (word_for call code), after)
    fails es after code none same cause = (
      it_ends es (reply.Err (word_for call code)) after (λ e. cc) none,
      (
        may_word call code,
        (
          inl (λ fits. record { fails = record { ids = ids; call = call; code = code; stands = stands; number = refl; cause = (cause fits).0; word_is = refl }; left = (cause fits).1 }),
          same,
        ),
      ),
    )

    pub waits : (es : List Entry) (after : Machine) → after.table ≡ m.table → after.store.standing ≡ Some (standing_as ids call) → (PendingCallsFit m → CallWaits m (own_of n) es call) → Row es (reply.Pending n, after)
    waits es after same on cause = ((apart (λ e. cc) stands_so, λ same. inl refl, no_blocking es (reply.Pending n) after, none_beside es (reply.Pending n) after), ((refl, inl (rw on refl)), (inl (λ binds. subst (λ (o : Option Standing). IsSomeAnd o (λ s. CallWaits m (own_of n) es s.call)) (sym stands) (cause binds)), same, λ other. on ∙ sym stands)))

    -- what is due for an answer that leaves this machine
    abbrev pub Due : List Entry → Result (Answer (Unit {0})) ErrorCode → Machine → Type 0
    Due es (Ok Pending) after = PendingCallsFit m → CallWaits m (own_of n) es call
    Due es (Ok (Ready given)) after = Unit {0}
    Due es (Err code) after = PendingCallsFit m → FailsSo es code after

    pub answered_so : IsOfNoCreate call → ((code : ErrorCode) → word_for call code ≡ word_of_code code) → (es : List Entry) (begun : Result (Answer (Unit {0})) ErrorCode × TcpRecord) → Due es begun.0 (record m { store = with_socket free (call_place call) begun.1 }) → CallRow es (call_answered free ids call begun)
    answered_so plain words es (Ok Pending, r) h = waits es (record m { store = record (with_socket free (call_place call) r) { standing = Some (standing_as ids call) } }) refl refl h
    answered_so plain words es (Ok (Ready given), r) h = let left : Machine = record m { store = with_socket free (call_place call) r } in done es left refl (gives_none m left call plain refl)
    answered_so plain words es (Err code, r) h =
        let left : Machine = record m { store = with_socket free (call_place call) r } in
        subst (λ (w : CodeWord). Row es (reply.Err w, left)) (words code) (fails es left code refl refl h)

    pub missing : IsOnNothing m call → Row [] (reply.Trap NoSuchHandle, nothing_stands m)
    missing nothing = (it_ends [] (reply.Trap NoSuchHandle) (nothing_stands m) (λ e. cc) refl, (inl (rw (stands, eq-eqb n n refl) nothing), λ live. (refl, rw (stands, eq-eqb n n refl) refl)))
