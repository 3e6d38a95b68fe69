-- Polls of the ends of streams of 0.3.
use Rattle.wasi_causes.proofs.Words.{◌≡◌, ◌∙◌, ◌∷◌, ◌++◌, ◌==◌, ℕ, Bool, true, false, List, [], Option, Some, None, Result, Ok, Err, refl, ap, subst, sym, length, min, if◌then◌else◌}
use Rattle.wasi_causes.proofs.Words.{Answer, Asks, AskWrite, Entry, ErrorCode, Give, IsRead, Machine, OpId, Ready, Receive, Records, Send, ShutdownType, TcpReceiveStream, TcpRecord, TcpSendStream, Told}
use Rattle.wasi_causes.proofs.Words.{WasiSocketsCtx, arith, bind, bytes_fields, entry, eqb-false, eqb-true, number_fields, own_of, polled_answer, ask_read, told_bytes, told_ready, told_taken, ◌≢◌}
use Rattle.wasi_causes.proofs.streams.EndsClosed.{closes_end, read_shuts, write_shuts}
use Rattle.wasi_causes.proofs.tables.Meets.{Meets, Rows, asks, branch, ends, onto, shifted, widen}
use Rattle.wasi_causes.proofs.tables.Routes.{Replied, Says, calls, finds}
use Rattle.wasi_causes.specs.GivenUp.{shutdown_entries}
use Rattle.wasi_causes.specs.P3Streams.{ClosesEnd, EndIsOver, GivesBytes, IsOverNow, LookToReadWaits, LookToWriteWaits, LooksToRead, LooksToWrite, Opens}
use Rattle.wasi_causes.specs.P3Streams.{ReadGives, ReadIsPending, ReadMeets, ReadMeetsEnd, ReadMeetsFault, ReadWaits, TakesBytes, WasOver, WriteGives}
use Rattle.wasi_causes.specs.P3Streams.{WriteIsPending, WriteMeets, WriteMeetsFault, WriteWaits, offered, read_entry, read_size, receive_side, send_side, shut, write_entry}
use Rattle.std.specs.Prelude.{take}
use Rattle.std.proofs.Math.Nat.{min-eq_left, min-le_right, sub-add-min_cancel}
use Rattle.wasi_addr.specs.Code.{p3_of_code}
use Rattle.host_store.specs.BaseStops.{BaseStop, renamed}
use Rattle.host_store.specs.Block.{Does, after_call, goes_on, last}
use Rattle.host_tcp.specs.EndPolls.{ends_by, looked, read_end, read_of, read_open, read_told, write_end, write_of, write_open, write_told}
use Rattle.host_tcp.specs.EndPolls as polls
use Rattle.host_store.specs.Lines.{same_stop, tcp_in}
use Rattle.host_store.specs.Machine.{receive3_at, send3_at}
use Rattle.host_store.specs.declared.kind.ConnectionEnd.{ConnectionEnd}
use Rattle.wasi_machine.specs.Machine.{stream_result_reply}
use Rattle.wasi_p3.specs.Lines.{in_base}
use Rattle.wasi_p3.specs.Stops.{P3Stop}
use Rattle.wasi_p3.specs.Streams as streams3
use Rattle.tcp_records.specs.Ends.{ends_of, half_of, look_to_read, look_to_write, read_by_half, receive_half, send_half, some_told, write_by_half}
use Rattle.wasi_records.specs.Records.{tcp2_at}
use Rattle.tcp_records.specs.Slots.{StreamEnd}
use Rattle.record_common.specs.Stops.{StopOf}
use Rattle.tcp_records.specs.declared.slot.StreamResult.{StreamResult}
use Rattle.tcp_records.specs.declared.slot.StreamResult.TheVariants.{Completed, Dropped}
use Rattle.wasi_steps.specs.declared.guest_call.GuestCall.TheVariants as guest
use Rattle.wasi_steps.specs.declared.guest_call.P3TcpCall.TheVariants as p3_tcp_call
use Rattle.wasi_steps.specs.declared.step.Step.TheVariants as step
use Rattle.wasi_tcp.specs.Halves.{read_asks}
use Rattle.wasi_world.specs.declared.call.Call.TheVariants as call
use Rattle.wasi_world.specs.declared.call.Told.TheVariants as told
use Rattle.wasi_world.specs.Asks.{IsFront}
use Rattle.wasi_world.specs.Fits.{IsReady, IsWritten}

-- == lines
-- a line that asks, and leaves the state as it was
asked : {C S A B : Type 0} {Row : Rows (Result B (StopOf C) × S)} {es : List Entry} {s : S} (first : Asks A) (next : A → Does C S B)
    → Meets (λ fs a. Meets Row fs (next a s)) es first → Meets Row es (goes_on (polls.asks first) next s)
asked {C} {S} {A} {B} {Row} {es} {s} first next k =
    calls {Mid = AskedRow} (after_call same_stop (λ s none. s) next s) (onto _ k) (λ fs e none h. absurd h) (λ fs a none h. h)
  where
    AskedRow : Rows (Result A (StopOf C) × Unit {0})
    AskedRow fs (Ok a, none) = Meets Row fs (next a s)
    AskedRow fs (Err e, none) = ⊥

by_test : {A : Type 0} {Row : Rows A} {es : List Entry} {S : Type 0} {s : S} (one other : S → Asks A) (b : Bool) → (b ≡ true → Meets Row es (one s)) → (b ≡ false → Meets Row es (other s)) → Meets Row es ((if b then one else other) s)
by_test one other true y n = y refl
by_test one other false y n = n refl

-- a write, whose bytes are handed in beside it
asks_write : {A : Type 0} {Row : Rows A} {before : List Entry} {op sock : OpId} {bytes : List ℕ} {next : Told → Asks A}
    → ((t : Told) → IsWritten (length bytes) t → IsFront t bytes → Meets Row (before ++ entry op (call.Write sock (length bytes)) t ∷ []) (next t)) → Meets Row before (AskWrite op sock bytes next)
asks_write k = record { along = (tt, λ t fits front. (k t fits front).along) }

min_less : (n : ℕ) → min (min n 8192) 65536 ≡ min n 8192
min_less n = let le = min-le_right n 8192 in min-eq_left (omega (arith, le))

min_some : (n : ℕ) → n ≢ 0 → min n 8192 ≢ 0
min_some n some e = let k = sub-add-min_cancel n 8192 in omega (arith, k, e, some)

-- == an end, and its half
module _ {H : Type 0} (m : Machine) (how : ShutdownType) (half : TcpRecord → Option H) (side : H → OpId) (own : OpId)
    (shuts : (r : TcpRecord) (its : H) → half r ≡ Some its → shutdown_entries own how (ends_of r.streams) ≡ shut own (side its) how ∷ [])
    (end : ConnectionEnd) (socket : ℕ) (named : end.socket ≡ Some socket) where
  its_half : (o : Option H) → half_of half (tcp2_at m.store.records socket) ≡ o → half_of half (tcp_in m end.socket) ≡ o
  its_half o e = ap (λ (x : Option ℕ). half_of half (tcp_in m x)) named ∙ e

  opened : {P : ℕ → TcpRecord → H → Type 0} (its : H) (o : Option TcpRecord) → tcp2_at m.store.records socket ≡ o → half_of half o ≡ Some its
      → ((r : TcpRecord) → tcp2_at m.store.records socket ≡ Some r → half r ≡ Some its → P socket r its) → Opens m half end P
  opened its None at e k = absurd (cc)
  opened its (Some r) at e k = record { place = socket; found = r; its = its; socket = named; at = at; has = e; holds = k r at e }

  -- the entry told that the stream is over
  over : {A : Type 0} {Row : Rows (Result (Answer (StreamResult A)) BaseStop × Records)} (Tells : H → Entry → StreamEnd → Type 0) (its : H) (e : Entry) (ended : StreamEnd) → Tells its e ended
      → half_of half (tcp2_at m.store.records socket) ≡ Some its
      → ((es : List Entry) (store : Records) → EndIsOver m own how half side Tells end es (record m { store = store }) → Row es (Ok (Ready Dropped), store))
      → Meets Row (e ∷ []) (ends_by own how end.slot socket ended m.store)
  over {A} {Row} Tells its e ended tells has row = by_record (tcp2_at m.store.records socket) refl has
    where
      Closed : TcpRecord → Rows (Result (Unit {0}) BaseStop × Records)
      Closed r es (Ok done, store) = (rest : List Entry) × (es ≡ e ∷ rest) × ClosesEnd m own (side its) how end.slot socket r ended rest (record m { store = store })
      Closed r es (Err stop, store) = ⊥

      by_record : (o : Option TcpRecord) → tcp2_at m.store.records socket ≡ o → half_of half o ≡ Some its → Meets Row (e ∷ []) (ends_by own how end.slot socket ended m.store)
      by_record None at h = absurd (cc)
      by_record (Some r) at h =
          calls {Mid = Closed r} _
          (onto _ (widen (λ es done k. (k.rest, k.cut, k.row)) (shifted (e ∷ []) (closes_end m own (side its) how end.slot socket r ended at (shuts r its h)))))
          (λ es stop store k. absurd k)
          (λ es done store k. ends (subst (λ (fs : List Entry). Row fs (Ok (Ready Dropped), store)) (sym k.1) (row _ store (IsOverNow e k.0 ended _ (record { place = socket; found = r; its = its; socket = named; at = at; has = h; holds = (tells, k.2) })))))

-- == a read
module _ (contexts : List WasiSocketsCtx) (m : Machine) (line c handle : ℕ) where
  abbrev reader : OpId
  reader = own_of line

  module _ (len : ℕ) where
    abbrev ReadSays : Rows (Result (Answer (StreamResult (List ℕ))) P3Stop × Machine)
    ReadSays = Replied contexts m line (step.Call c (guest.P3Tcp (p3_tcp_call.Read handle len))) (stream_result_reply bytes_fields)

    module _ (end : ConnectionEnd) (names : receive3_at m handle ≡ Some end) where
      abbrev ReadRow : Rows (Result (Answer (StreamResult (List ℕ))) BaseStop × Records)
      ReadRow es (Ok answer, store) = ReadSays es (Ok answer, record m { store = store })
      ReadRow es (Err stop, store) = ReadSays es (Err (renamed p3_of_code stop), record m { store = store })

      read_over : (es : List Entry) (store : Records) → EndIsOver m reader Receive receive_half receive_side (ReadMeets reader len) end es (record m { store = store }) → ReadRow es (Ok (Ready Dropped), store)
      read_over es store h = (tt, (tt, record { end = end; names = names; holds = h }))

      module _ (socket : ℕ) (named : end.socket ≡ Some socket) where
        abbrev read_opens : {P : ℕ → TcpRecord → TcpReceiveStream → Type 0} (its : TcpReceiveStream) → half_of receive_half (tcp2_at m.store.records socket) ≡ Some its
            → ((r : TcpRecord) → P socket r its) → Opens m receive_half end P
        read_opens its has k = opened m Receive receive_half receive_side reader (read_shuts reader) end socket named its (tcp2_at m.store.records socket) refl has (λ r at h. k r)

        module _ (its : TcpReceiveStream) (has : half_of receive_half (tcp2_at m.store.records socket) ≡ Some its) where
          read_gave : (es : List Entry) (bytes : List ℕ) → ReadGives reader its len es bytes → ReadRow es (Ok (Ready (Completed bytes)), m.store)
          read_gave es bytes k = (tt, ((tt, tt), record { end = end; names = names; holds = read_opens its has (λ r. (bytes, k, refl, refl)) }))

          read_waits : (es : List Entry) → ReadWaits reader its len es → ReadRow es (Ok (polls.not_yet true), m.store)
          read_waits es k = (tt, (tt, record { end = end; names = names; holds = read_opens its has (λ r. (k, refl)) }))

          read_looks : len ≡ 0 → (t : Told) → IsReady t → ReadRow (entry reader (call.ReadReady its.side) t ∷ []) (Ok (looked true [] (Some (told_ready t))), m.store)
          read_looks none told.Done fits = read_gave _ [] (subst (λ (n : ℕ). ReadGives reader its n (entry reader (call.ReadReady its.side) told.Done ∷ []) []) (sym none) LooksToRead)
          read_looks none told.Pending fits = read_waits _ (subst (λ (n : ℕ). ReadWaits reader its n (entry reader (call.ReadReady its.side) told.Pending ∷ [])) (sym none) LookToReadWaits)
          read_looks none _ fits = absurd fits

          reads : len ≢ 0 → (t : Told) → IsRead (read_size len) t → Meets ReadRow (read_entry reader len its t ∷ []) (read_told reader true end.slot socket (some_told (polled_answer (told_bytes t))) m.store)
          reads some (told.Bytes []) fits = over m Receive receive_half receive_side reader (read_shuts reader) end socket named (ReadMeets reader len) its _ (Ok tt) (ReadMeetsEnd some) has read_over
          reads some (told.Bytes (b ∷ bytes)) fits = ends (read_gave _ (b ∷ bytes) (GivesBytes len b bytes some fits))
          reads some (told.Code code) fits = over m Receive receive_half receive_side reader (read_shuts reader) end socket named (ReadMeets reader len) its _ (Err code) (ReadMeetsFault code some) has read_over
          reads some told.Pending fits = ends (read_waits _ (ReadIsPending len some))
          reads some _ fits = absurd fits

        read_at_half : (o : Option TcpReceiveStream) → half_of receive_half (tcp2_at m.store.records socket) ≡ o → Meets ReadRow [] (read_open reader true len end.slot socket o m.store)
        read_at_half None has =
            by_test _ _ (len == 0)
            (λ none. asked (look_to_read reader None) _ (ends (ends (read_over [] m.store (WasOver (its_half m Receive receive_half receive_side reader (read_shuts reader) end socket named None has))))))
            (λ some. asked (read_by_half reader (min len 8192) None) _ (ends (ends (read_over [] m.store (WasOver (its_half m Receive receive_half receive_side reader (read_shuts reader) end socket named None has))))))
        read_at_half (Some its) has =
            by_test _ _ (len == 0)
            (λ none. asked (look_to_read reader (Some its)) _ (onto _ (asks (λ t fits. ends (ends (read_looks its has (eqb-true len 0 none) t fits))))))
            (λ some. asked (read_by_half reader (min len 8192) (Some its)) _ (onto _ (sized its has (λ e. eqb-false len 0 some e))))
          where
            ToldRow : Rows (Result (Answer (List ℕ)) ErrorCode)
            ToldRow es told = Meets ReadRow es (read_told reader true end.slot socket (some_told told) m.store)

            sized : (its : TcpReceiveStream) → half_of receive_half (tcp2_at m.store.records socket) ≡ Some its → len ≢ 0
                → Meets ToldRow [] (read_asks reader its.side (min len 8192))
            sized its has some =
                branch (min len 8192 == 0) (λ none. absurd (min_some len some (eqb-true (min len 8192) 0 none)))
                (λ more. onto _ (subst (λ (n : ℕ). Meets (λ es t. ToldRow es (polled_answer t)) [] (ask_read reader its.side n)) (sym (min_less len)) (asks (λ t fits. ends (reads its has some t fits)))))

      read_by_socket : (o : Option ℕ) → end.socket ≡ o → Meets ReadRow [] (read_of reader true len end.slot o m.store)
      read_by_socket None e = ends (read_over [] m.store (WasOver (ap (λ (x : Option ℕ). half_of receive_half (tcp_in m x)) e)))
      read_by_socket (Some socket) e = read_at_half socket e (half_of receive_half (tcp2_at m.store.records socket)) refl

    pub p3_read : Meets (Says contexts m line (step.Call c (guest.P3Tcp (p3_tcp_call.Read handle len)))) [] (bind (streams3.read reader true len handle m) (λ done. Give (stream_result_reply bytes_fields done.0, done.1)))
    p3_read =
        onto _ (finds (λ end. last (in_base (read_end reader true len end))) (receive3_at m handle) (λ none. (tt, (none, (refl, refl))))
        (λ end names. calls {Mid = ReadRow end names} _ (read_by_socket end names end.socket refl) (λ es stop store row. ends row) (λ es answer store row. ends row)))

-- == a write
module _ (contexts : List WasiSocketsCtx) (m : Machine) (line c handle : ℕ) where
  abbrev writer : OpId
  writer = own_of line

  module _ (bytes : List ℕ) where
    abbrev WriteSays : Rows (Result (Answer (StreamResult ℕ)) P3Stop × Machine)
    WriteSays = Replied contexts m line (step.Call c (guest.P3Tcp (p3_tcp_call.Write handle bytes))) (stream_result_reply number_fields)

    module _ (end : ConnectionEnd) (names : send3_at m handle ≡ Some end) where
      abbrev WriteRow : Rows (Result (Answer (StreamResult ℕ)) BaseStop × Records)
      WriteRow es (Ok answer, store) = WriteSays es (Ok answer, record m { store = store })
      WriteRow es (Err stop, store) = WriteSays es (Err (renamed p3_of_code stop), record m { store = store })

      write_over : (es : List Entry) (store : Records) → EndIsOver m writer Send send_half send_side (WriteMeets writer bytes) end es (record m { store = store }) → WriteRow es (Ok (Ready Dropped), store)
      write_over es store h = (tt, (tt, record { end = end; names = names; holds = h }))

      module _ (socket : ℕ) (named : end.socket ≡ Some socket) where
        abbrev write_opens : {P : ℕ → TcpRecord → TcpSendStream → Type 0} (its : TcpSendStream) → half_of send_half (tcp2_at m.store.records socket) ≡ Some its
            → ((r : TcpRecord) → P socket r its) → Opens m send_half end P
        write_opens its has k = opened m Send send_half send_side writer (write_shuts writer) end socket named its (tcp2_at m.store.records socket) refl has (λ r at h. k r)

        closed : half_of send_half (tcp2_at m.store.records socket) ≡ None → WriteRow [] (Ok (Ready Dropped), m.store)
        closed none = write_over [] m.store (WasOver (its_half m Send send_half send_side writer (write_shuts writer) end socket named None none))

        module _ (its : TcpSendStream) (has : half_of send_half (tcp2_at m.store.records socket) ≡ Some its) where
          write_gave : (es : List Entry) (count : ℕ) → WriteGives writer its bytes es count → WriteRow es (Ok (Ready (Completed count)), m.store)
          write_gave es count k = (tt, ((tt, tt), record { end = end; names = names; holds = write_opens its has (λ r. (count, k, refl, refl)) }))

          write_waits : (es : List Entry) → WriteWaits writer its bytes es → WriteRow es (Ok (polls.not_yet true), m.store)
          write_waits es k = (tt, (tt, record { end = end; names = names; holds = write_opens its has (λ r. (k, refl)) }))

          write_looks : bytes ≡ [] → (t : Told) → IsReady t → WriteRow (entry writer (call.WriteReady its.side) t ∷ []) (Ok (looked true 0 (Some (told_ready t))), m.store)
          write_looks none told.Done fits = write_gave _ 0 (subst (λ (xs : List ℕ). WriteGives writer its xs (entry writer (call.WriteReady its.side) told.Done ∷ []) 0) (sym none) LooksToWrite)
          write_looks none told.Pending fits = write_waits _ (subst (λ (xs : List ℕ). WriteWaits writer its xs (entry writer (call.WriteReady its.side) told.Pending ∷ [])) (sym none) LookToWriteWaits)
          write_looks none _ fits = absurd fits

          write_writes : (b : ℕ) (rest : List ℕ) → bytes ≡ b ∷ rest → (t : Told) → IsWritten (length (offered (b ∷ rest))) t → IsFront t (offered (b ∷ rest))
              → Meets WriteRow (write_entry writer (b ∷ rest) its t ∷ []) (write_told writer true end.slot socket (some_told (polled_answer (told_taken t))) m.store)
          write_writes b rest is (told.Took taken) fits front = ends (write_gave _ (length taken) (subst (λ (xs : List ℕ). WriteGives writer its xs (write_entry writer (b ∷ rest) its (told.Took taken) ∷ []) (length taken)) (sym is) (TakesBytes (b ∷ rest) taken (λ e. cc) fits.0 fits.1 front)))
          write_writes b rest is (told.Code code) fits front =
              over m Send send_half send_side writer (write_shuts writer) end socket named (WriteMeets writer bytes) its _ (Err code)
              (subst (λ (xs : List ℕ). WriteMeets writer xs its (write_entry writer (b ∷ rest) its (told.Code code)) (Err code)) (sym is) (WriteMeetsFault code (λ e. cc))) has write_over
          write_writes b rest is told.Pending fits front = ends (write_waits _ (subst (λ (xs : List ℕ). WriteWaits writer its xs (write_entry writer (b ∷ rest) its told.Pending ∷ [])) (sym is) (WriteIsPending (b ∷ rest) (λ e. cc))))
          write_writes b rest is _ fits front = absurd fits

        write_at_half : (o : Option TcpSendStream) → half_of send_half (tcp2_at m.store.records socket) ≡ o → (given : List ℕ) → bytes ≡ given → Meets WriteRow [] (write_open writer true given end.slot socket o m.store)
        write_at_half None has [] is = asked (look_to_write writer None) _ (ends (ends (closed has)))
        write_at_half None has (b ∷ rest) is = asked (write_by_half writer (take 4294967295 (b ∷ rest)) None) _ (ends (ends (closed has)))
        write_at_half (Some its) has [] is = asked (look_to_write writer (Some its)) _ (onto _ (asks (λ t fits. ends (ends (write_looks its has is t fits)))))
        write_at_half (Some its) has (b ∷ rest) is =
            asked (write_by_half writer (take 4294967295 (b ∷ rest)) (Some its)) _ (onto _ (onto _ (asks_write (λ t fits front. ends (write_writes its has b rest is t fits front)))))

      write_by_socket : (o : Option ℕ) → end.socket ≡ o → Meets WriteRow [] (write_of writer true bytes end.slot o m.store)
      write_by_socket None e = ends (write_over [] m.store (WasOver (ap (λ (x : Option ℕ). half_of send_half (tcp_in m x)) e)))
      write_by_socket (Some socket) e = write_at_half socket e (half_of send_half (tcp2_at m.store.records socket)) refl bytes refl

    pub p3_write : Meets (Says contexts m line (step.Call c (guest.P3Tcp (p3_tcp_call.Write handle bytes)))) [] (bind (streams3.write writer true bytes handle m) (λ done. Give (stream_result_reply number_fields done.0, done.1)))
    p3_write =
        onto _ (finds (λ end. last (in_base (write_end writer true bytes end))) (send3_at m handle) (λ none. (tt, (none, (refl, refl))))
        (λ end names. calls {Mid = WriteRow end names} _ (write_by_socket end names end.socket refl) (λ es stop store row. ends row) (λ es answer store row. ends row)))
