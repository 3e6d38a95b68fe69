-- Which of its three answers a poll of an end of 0.3 gives, by the first entry.
use Rattle.wasi_causes.proofs.Words.{◌≡◌, ◌∷◌, ℕ, List, [], ◌∙◌, Option, Some, None, refl, ap, subst, sym, inl, inr}
use Rattle.wasi_causes.proofs.Words.{Entry, Field, Machine, OpId, Receive, Reply, Send, TcpReceiveStream, TcpRecord, TcpSendStream, WasiSocketsCtx, own_of}
use Rattle.wasi_causes.proofs.tables.Routes.{apart}
use Rattle.wasi_causes.specs.Outcomes.{Outcome}
use Rattle.wasi_causes.specs.P3Streams.{BeginsOver, BeginsPending, EndAnswers, EndIsOver, GivesBytes, IsOverNow, LookToReadWaits, LookToWriteWaits, LooksToRead, LooksToWrite, Opens}
use Rattle.wasi_causes.specs.P3Streams.{ReadGives, ReadIsPending, ReadMeets, ReadMeetsEnd, ReadMeetsFault, ReadWaits, TakesBytes, WasOver, WriteGives, WriteIsPending, WriteMeets, WriteMeetsFault, WriteWaits, receive_side, send_side}
use Rattle.host_store.specs.Lines.{tcp_in}
use Rattle.host_store.specs.Machine.{receive3_at, send3_at}
use Rattle.host_store.specs.declared.kind.ConnectionEnd.{ConnectionEnd}
use Rattle.tcp_records.specs.Ends.{half_of, receive_half, send_half}
use Rattle.tcp_records.specs.Slots.{StreamEnd}
use Rattle.wasi_steps.specs.declared.guest_call.GuestCall.TheVariants as guest
use Rattle.wasi_steps.specs.declared.guest_call.P3TcpCall.TheVariants as p3_tcp_call
use Rattle.wasi_steps.specs.declared.reply.Reply.TheVariants as reply
use Rattle.wasi_steps.specs.declared.step.Step.TheVariants as step
use Rattle.wasi_world.specs.declared.outcome.TrapKind.TheVariants as trap
use Rattle.wasi_addr.specs.declared.address.ShutdownType.{ShutdownType}

-- == of an end
module _ {H : Type 0} (m : Machine) (half : TcpRecord → Option H) (end : ConnectionEnd) where
  abbrev IsClosed : Type 0
  IsClosed = half_of half (tcp_in m end.socket) ≡ None

  -- one that is open isn't closed
  open_not : {P : ℕ → TcpRecord → H → Type 0} → Opens m half end P → IsClosed → ⊥
  open_not o none = let there : half_of half (tcp_in m end.socket) ≡ Some o.its = ap (λ (x : Option ℕ). half_of half (tcp_in m x)) o.socket ∙ (ap (half_of half) o.at ∙ o.has) in absurd (cc)

  as_given : {P : ℕ → TcpRecord → H → Type 0} (es : List Entry) (fields : List Field) → (BeginsPending es → ⊥) × (BeginsOver es → ⊥) × (es ≡ [] → ⊥) → Opens m half end P → EndAnswers es (reply.Ok fields) IsClosed
  as_given es fields g o = record { cancelled = apart (λ e. cc) g.0; dropped = apart (λ e. cc) g.1; closed = apart g.2 (open_not o) }

  as_waiting : {P : ℕ → TcpRecord → H → Type 0} (es : List Entry) → BeginsPending es × (BeginsOver es → ⊥) × (es ≡ [] → ⊥) → Opens m half end P → EndAnswers es reply.Cancelled IsClosed
  as_waiting es g o = record { cancelled = (λ e. g.0, λ k. refl); dropped = apart (λ e. cc) g.1; closed = apart g.2 (open_not o) }

  as_over : (own : OpId) (how : ShutdownType) (side : H → OpId) (Tells : H → Entry → StreamEnd → Type 0)
      → ((its : H) (e : Entry) (ended : StreamEnd) (rest : List Entry) → Tells its e ended → (BeginsPending (e ∷ rest) → ⊥) × BeginsOver (e ∷ rest))
      → (es : List Entry) (after : Machine) → EndIsOver m own how half side Tells end es after → EndAnswers es reply.Dropped IsClosed
  as_over own how side Tells tells _ _ (WasOver none) = record { cancelled = apart (λ e. cc) (λ k. k); dropped = (λ e. tt, λ k. refl); closed = (λ e. none, λ k. refl) }
  as_over own how side Tells tells _ _ (IsOverNow e rest ended after o) =
      let k = tells o.its e ended rest o.holds.0 in
      record { cancelled = apart (λ e. cc) k.0; dropped = (λ e. k.1, λ x. refl); closed = apart (λ e. cc) (open_not o) }

-- == a read
read_gave : (own : OpId) (half : TcpReceiveStream) (len : ℕ) (es : List Entry) (bytes : List ℕ) → ReadGives own half len es bytes → (BeginsPending es → ⊥) × (BeginsOver es → ⊥) × (es ≡ [] → ⊥)
read_gave own half _ _ _ LooksToRead = (λ k. absurd (cc), λ k. k, λ e. cc)
read_gave own half _ _ _ (GivesBytes len b bytes some within) = (λ k. absurd (cc), λ k. k, λ e. cc)

read_waits : (own : OpId) (half : TcpReceiveStream) (len : ℕ) (es : List Entry) → ReadWaits own half len es → BeginsPending es × (BeginsOver es → ⊥) × (es ≡ [] → ⊥)
read_waits own half _ _ LookToReadWaits = (refl, λ k. k, λ e. cc)
read_waits own half _ _ (ReadIsPending len some) = (refl, λ k. k, λ e. cc)

read_meets : (own : OpId) (len : ℕ) (half : TcpReceiveStream) (e : Entry) (ended : StreamEnd) (rest : List Entry) → ReadMeets own len half e ended → (BeginsPending (e ∷ rest) → ⊥) × BeginsOver (e ∷ rest)
read_meets own len half _ _ rest (ReadMeetsEnd some) = (λ k. absurd (cc), tt)
read_meets own len half _ _ rest (ReadMeetsFault c some) = (λ k. absurd (cc), tt)

module _ (contexts : List WasiSocketsCtx) (m : Machine) (line c handle : ℕ) (len : ℕ) (end : ConnectionEnd) (names : receive3_at m handle ≡ Some end) where
  abbrev ReadAnswers : List Entry → Reply → ConnectionEnd → Type 0
  ReadAnswers es r end = EndAnswers es r (half_of receive_half (tcp_in m end.socket) ≡ None)

  read_its : (es : List Entry) (r : Reply) (e : ConnectionEnd) → receive3_at m handle ≡ Some e → ReadAnswers es r e → ReadAnswers es r end
  read_its es r e named k = let both : Some e ≡ Some end = sym named ∙ names in let same : e ≡ end = cc in subst (ReadAnswers es r) same k

  pub read_answers : (es : List Entry) (r : Reply) (after : Machine) → Outcome contexts m line (step.Call c (guest.P3Tcp (p3_tcp_call.Read handle len))) es r after → ReadAnswers es r end
  read_answers es (reply.Ok fields) after row =
      let k = row.1.1 in read_its es (reply.Ok fields) k.end k.names (as_given m receive_half k.end es fields (read_gave (own_of line) k.holds.its len es k.holds.holds.0 k.holds.holds.1) k.holds)
  read_answers es reply.Cancelled after row =
      let k = row.1.1 in read_its es reply.Cancelled k.end k.names (as_waiting m receive_half k.end es (read_waits (own_of line) k.holds.its len es k.holds.holds.0) k.holds)
  read_answers es reply.Dropped after row =
      let k = row.1.1 in read_its es reply.Dropped k.end k.names (as_over m receive_half k.end (own_of line) Receive receive_side _ (λ its e ended rest h. read_meets (own_of line) len its e ended rest h) es after k.holds)
  read_answers es (reply.Trap trap.NoSuchHandle) after row = let none : receive3_at m handle ≡ None = row.1.0 in absurd (cc)
  read_answers es (reply.Trap trap.HasChildren) after row = absurd row.1.0
  read_answers es (reply.Trap trap.Full) after row = absurd row.1.0
  read_answers es (reply.Trap trap.NotPermitted) after row = elim row.1.0 [ inl k ↦ absurd k | inr k ↦ absurd k ]
  read_answers es (reply.Trap trap.StreamsAlive) after row = absurd row.1.0
  read_answers es (reply.Trap trap.Capacity) after row = absurd row.1.0
  read_answers es (reply.Trap trap.TooLong) after row = absurd row.1.0
  read_answers es (reply.Trap trap.EmptyList) after row = absurd row.1.0
  read_answers es (reply.Err w) after row = absurd row.1.0
  read_answers es reply.Closed after row = absurd row.1.0
  read_answers es (reply.Failed w other) after row = absurd row.1.0.0
  read_answers es (reply.Pending n) after row = absurd row.1.0.0
  read_answers es reply.Unfilled after row = absurd row.1.0
  read_answers es reply.NoSuchCall after row = elim row.1.0 [ inl k ↦ absurd k | inr k ↦ absurd k ]
  read_answers es _ after row = absurd row.1

-- == a write
write_gave : (own : OpId) (half : TcpSendStream) (bytes : List ℕ) (es : List Entry) (count : ℕ) → WriteGives own half bytes es count → (BeginsPending es → ⊥) × (BeginsOver es → ⊥) × (es ≡ [] → ⊥)
write_gave own half _ _ _ LooksToWrite = (λ k. absurd (cc), λ k. k, λ e. cc)
write_gave own half _ _ _ (TakesBytes bytes taken given some within front) = (λ k. absurd (cc), λ k. k, λ e. cc)

write_waits : (own : OpId) (half : TcpSendStream) (bytes : List ℕ) (es : List Entry) → WriteWaits own half bytes es → BeginsPending es × (BeginsOver es → ⊥) × (es ≡ [] → ⊥)
write_waits own half _ _ LookToWriteWaits = (refl, λ k. k, λ e. cc)
write_waits own half _ _ (WriteIsPending bytes given) = (refl, λ k. k, λ e. cc)

write_meets : (own : OpId) (bytes : List ℕ) (half : TcpSendStream) (e : Entry) (ended : StreamEnd) (rest : List Entry) → WriteMeets own bytes half e ended → (BeginsPending (e ∷ rest) → ⊥) × BeginsOver (e ∷ rest)
write_meets own bytes half _ _ rest (WriteMeetsFault c given) = (λ k. absurd (cc), tt)

module _ (contexts : List WasiSocketsCtx) (m : Machine) (line c handle : ℕ) (bytes : List ℕ) (end : ConnectionEnd) (names : send3_at m handle ≡ Some end) where
  abbrev WriteAnswers : List Entry → Reply → ConnectionEnd → Type 0
  WriteAnswers es r end = EndAnswers es r (half_of send_half (tcp_in m end.socket) ≡ None)

  write_its : (es : List Entry) (r : Reply) (e : ConnectionEnd) → send3_at m handle ≡ Some e → WriteAnswers es r e → WriteAnswers es r end
  write_its es r e named k = let both : Some e ≡ Some end = sym named ∙ names in let same : e ≡ end = cc in subst (WriteAnswers es r) same k

  pub write_answers : (es : List Entry) (r : Reply) (after : Machine) → Outcome contexts m line (step.Call c (guest.P3Tcp (p3_tcp_call.Write handle bytes))) es r after → WriteAnswers es r end
  write_answers es (reply.Ok fields) after row =
      let k = row.1.1 in write_its es (reply.Ok fields) k.end k.names (as_given m send_half k.end es fields (write_gave (own_of line) k.holds.its bytes es k.holds.holds.0 k.holds.holds.1) k.holds)
  write_answers es reply.Cancelled after row =
      let k = row.1.1 in write_its es reply.Cancelled k.end k.names (as_waiting m send_half k.end es (write_waits (own_of line) k.holds.its bytes es k.holds.holds.0) k.holds)
  write_answers es reply.Dropped after row =
      let k = row.1.1 in write_its es reply.Dropped k.end k.names (as_over m send_half k.end (own_of line) Send send_side _ (λ its e ended rest h. write_meets (own_of line) bytes its e ended rest h) es after k.holds)
  write_answers es (reply.Trap trap.NoSuchHandle) after row = let none : send3_at m handle ≡ None = row.1.0 in absurd (cc)
  write_answers es (reply.Trap trap.HasChildren) after row = absurd row.1.0
  write_answers es (reply.Trap trap.Full) after row = absurd row.1.0
  write_answers es (reply.Trap trap.NotPermitted) after row = elim row.1.0 [ inl k ↦ absurd k | inr k ↦ absurd k ]
  write_answers es (reply.Trap trap.StreamsAlive) after row = absurd row.1.0
  write_answers es (reply.Trap trap.Capacity) after row = absurd row.1.0
  write_answers es (reply.Trap trap.TooLong) after row = absurd row.1.0
  write_answers es (reply.Trap trap.EmptyList) after row = absurd row.1.0
  write_answers es (reply.Err w) after row = absurd row.1.0
  write_answers es reply.Closed after row = absurd row.1.0
  write_answers es (reply.Failed w other) after row = absurd row.1.0.0
  write_answers es (reply.Pending n) after row = absurd row.1.0.0
  write_answers es reply.Unfilled after row = absurd row.1.0
  write_answers es reply.NoSuchCall after row = elim row.1.0 [ inl k ↦ absurd k | inr k ↦ absurd k ]
  write_answers es _ after row = absurd row.1
