-- A write's bytes are taken in order.
use Rattle.std.specs.Prelude.{Result, Ok, Err, if◌then◌else◌}
use Rattle.std.proofs.Common.{◌≡◌, ◌∙◌, ap, sym, subst, ℕ, zero, suc, ◌==◌, ◌≤◌, Bool, true, List, [], ◌∷◌, ◌++◌, length, take, drop, refl, arith, append_assoc, append-nil}
use Rattle.std.proofs.lemmas.List.{take-append-drop}
use Rattle.std.proofs.Math.Seq.{drop-nil}
use Rattle.std.specs.Prelude.{nat_lt}
use Rattle.wasi_addr.specs.declared.address.ShutdownType.TheVariants.{Send}
use Rattle.wasi_addr.specs.declared.code.ErrorCode.{ErrorCode}
use Rattle.wasi_world.specs.declared.ids.OpId.{OpId}
use Rattle.wasi_world.specs.declared.call.Call.{Call}
use Rattle.wasi_world.specs.declared.call.Call.TheVariants as call
use Rattle.wasi_world.specs.declared.call.Told.{Told}
use Rattle.wasi_world.specs.declared.call.Told.TheVariants as told
use Rattle.wasi_world.specs.declared.call.Entry.{Entry}
use Rattle.wasi_world.specs.declared.outcome.Answer.{Answer}
use Rattle.wasi_world.specs.declared.outcome.Answer.TheVariants.{Ready, Pending}
use Rattle.wasi_world.specs.Sides.{is_same}
use Rattle.wasi_world.specs.Fits.{Fits}
use Rattle.wasi_world.specs.Typed.{told_taken}
use Rattle.wasi_world.specs.Asks.{Asks, Give, bind, IsFront, Left}
use Rattle.wasi_world.specs.Operation.{Given, Nothing, Item, Write, Who, End, Waits, Done, Refused, Goes, Stays, Again, Ends, ShutdownLast, less_one, write_front, taken_front, last_ask, after, round, polls, poll_asks}
use Rattle.wasi_world.specs.Operation as operation
use Rattle.wasi_world.proofs.Allowed.{Allows, allows_then, allows_if, reached, holds}
use Rattle.wasi_streams.specs.StreamStop.{StreamStop, Failed, Closed as closed}
use Rattle.wasi_tcp.specs.declared.halves.TcpSendStream.{TcpSendStream}
use Rattle.wasi_tcp.specs.declared.halves.TcpReceiveStream.{TcpReceiveStream}
use Rattle.wasi_tcp.specs.declared.reader.ReadState.{ReadState}
use Rattle.wasi_tcp.specs.declared.reader.ReadState.TheVariants as read
use Rattle.wasi_tcp.specs.declared.writer.WriteError.{WriteError}
use Rattle.wasi_tcp.specs.declared.writer.WriteState.{WriteState}
use Rattle.wasi_tcp.specs.declared.writer.WriteState.TheVariants as state
use Rattle.wasi_tcp.specs.Job.{Job, writer, new_job, job_asks}
use Rattle.wasi_tcp.specs.Halves.{read_asks}
use Rattle.wasi_tcp.specs.Reader.{read_end_asks, after_read, read_state_asks}
use Rattle.wasi_tcp.specs.Writer.{stop_of, collected, written_by, look_in, look_asks, check_write_asks, begun, turn_asks, write_on_asks, write_half_asks}
use Rattle.wasi_tcp.specs.Taken.{took, taken_by, taken_in, IsFrontOf, bytes_left, IsTakenBy}

-- == of the bytes that are taken
same_number : (n : ℕ) → (n == n) ≡ true
same_number n = grind arith

same_side : (side : OpId) → is_same side side ≡ true
same_side side = rw (same_number side.step, same_number side.part) refl

taken_more : (side : OpId) (es : List Entry) (e : Entry) → taken_in side (es ++ e ∷ []) ≡ taken_in side es ++ taken_by side e.call e.answer
taken_more side [] e = append-nil (taken_by side e.call e.answer)
taken_more side (x ∷ es) e = ap (λ more. taken_by side x.call x.answer ++ more) (taken_more side es e) ∙ sym (append_assoc (taken_by side x.call x.answer) (taken_in side es) (taken_by side e.call e.answer))

abbrev wrote : OpId → OpId → ℕ → Told → Entry
wrote op side offered told = record { op = op; call = call.Write side offered; answer = told }

-- one write more
took_more : (op side : OpId) (offered : ℕ) (es : List Entry) (t : Told) → taken_in side (es ++ wrote op side offered t ∷ []) ≡ taken_in side es ++ took t
took_more op side offered es t =
    let P : Bool → Type 0 = λ b. taken_in side (es ++ wrote op side offered t ∷ []) ≡ taken_in side es ++ (if b then took t else []) in
    subst P (same_side side) (taken_more side es (wrote op side offered t))

-- the front, and then the rest
front_then : (bytes taken : List ℕ) (b : ℕ) → taken ≡ take (length taken) (b ∷ bytes) → 1 ≤ length taken → taken ++ drop (less_one (length taken)) bytes ≡ b ∷ bytes
front_then bytes [] b h some = absurd (omega (arith, some))
front_then bytes (x ∷ xs) b h some = ap (λ w. w ++ drop (length xs) bytes) h ∙ ap (λ more. b ∷ more) (take-append-drop (length xs) bytes)

-- one call more that isn't a write
other_more : (side : OpId) (es : List Entry) (e : Entry) → taken_by side e.call e.answer ≡ [] → taken_in side (es ++ e ∷ []) ≡ taken_in side es
other_more side es e none = taken_more side es e ∙ (ap (λ more. taken_in side es ++ more) none ∙ append-nil (taken_in side es))

-- == of a write of these bytes to this network socket
module _ (op side : OpId) (bytes : List ℕ) where
  abbrev Front : List Entry → Type 0
  Front es = IsFrontOf (taken_in side es) bytes

  abbrev May : List Entry → OpId → Call → Type 0
  May es id call = Front es

  abbrev All : List Entry → Type 0
  All es = taken_in side es ≡ bytes

  abbrev Rest : List Entry → List ℕ → Type 0
  Rest es left = taken_in side es ++ left ≡ bytes

  front_of_all : (es : List Entry) → All es → Front es
  front_of_all es h = ([], append-nil (taken_in side es) ∙ h)

  -- what was taken is the same
  same_front : (es : List Entry) (e : Entry) → taken_in side (es ++ e ∷ []) ≡ taken_in side es → Front es → Front (es ++ e ∷ [])
  same_front es e k h = (h.0, ap (λ w. w ++ h.0) k ∙ h.1)

  same_rest : (es : List Entry) (e : Entry) (left : List ℕ) → taken_in side (es ++ e ∷ []) ≡ taken_in side es → Rest es left → Rest (es ++ e ∷ []) left
  same_rest es e left k h = ap (λ w. w ++ left) k ∙ h

  -- nothing was taken by a write
  none_more : (offered : ℕ) (es : List Entry) (t : Told) → took t ≡ [] → taken_in side (es ++ wrote op side offered t ∷ []) ≡ taken_in side es
  none_more offered es t none = took_more op side offered es t ∙ (ap (λ more. taken_in side es ++ more) none ∙ append-nil (taken_in side es))

  -- what is known once the front ask is answered
  abbrev FrontTakes : List Entry → operation.Front → Type 0
  FrontTakes es (Goes given) = All es
  FrontTakes es (Stays item) = Rest es (bytes_left (item ∷ []))
  FrontTakes es (Again item) = ⊥
  FrontTakes es (Ends c given) = Front es

  abbrev writes : List ℕ → ℕ → Asks operation.Front
  writes left skip = write_front (writer op side) left skip

  told_takes : (b : ℕ) (left : List ℕ) (es : List Entry) → Rest es (b ∷ left) → ((skip : ℕ) (fs : List Entry) → Rest fs (drop skip left) → Allows May FrontTakes fs (writes left skip))
      → (t : Told) → Fits (call.Write side (length (b ∷ left))) t → IsFront t (b ∷ left)
      → Allows May FrontTakes (es ++ wrote op side (length (b ∷ left)) t ∷ []) (taken_front (writes left) (Write (b ∷ left)) (told_taken t))
  told_takes b left es h next (told.Took taken) fits front =
      next (less_one (length taken)) (es ++ wrote op side (length (b ∷ left)) (told.Took taken) ∷ [])
      (ap (λ w. w ++ drop (less_one (length taken)) left) (took_more op side (length (b ∷ left)) es (told.Took taken))
      ∙ (append_assoc (taken_in side es) taken (drop (less_one (length taken)) left)
      ∙ (ap (λ w. taken_in side es ++ w) (front_then left taken b front fits.0) ∙ h)))
  told_takes b left es h next told.Pending fits front = same_rest es (wrote op side (length (b ∷ left)) told.Pending) (b ∷ left) (none_more (length (b ∷ left)) es told.Pending refl) h
  told_takes b left es h next (told.Code c) fits front = same_front es (wrote op side (length (b ∷ left)) (told.Code c)) (none_more (length (b ∷ left)) es (told.Code c) refl) (b ∷ left, h)
  told_takes b left es h next told.Done fits front = absurd fits
  told_takes b left es h next told.Yes fits front = absurd fits
  told_takes b left es h next told.No fits front = absurd fits
  told_takes b left es h next (told.Addr a) fits front = absurd fits
  told_takes b left es h next (told.Arrived a) fits front = absurd fits
  told_takes b left es h next (told.Bytes bs) fits front = absurd fits
  told_takes b left es h next (told.Datagram bs a) fits front = absurd fits
  told_takes b left es h next (told.Value v) fits front = absurd fits
  told_takes b left es h next (told.Names names) fits front = absurd fits

  front_takes : (left : List ℕ) (skip : ℕ) (es : List Entry) → Rest es (drop skip left) → Allows May FrontTakes es (writes left skip)
  unfolding bind
  front_takes [] skip es h = sym (append-nil (taken_in side es)) ∙ (ap (λ w. taken_in side es ++ w) (sym (drop-nil {A = ℕ} skip)) ∙ h)
  front_takes (b ∷ left) (suc skip) es h = front_takes left skip es h
  front_takes (b ∷ left) zero es h = ((b ∷ left, h), told_takes b left es h (λ skip fs k. front_takes left skip fs k))

  -- what a poll leaves
  abbrev Polled : List Entry → End × List Item → Type 0
  Polled es (Waits, items) = Rest es (bytes_left items)
  Polled es (Done given, items) = All es
  Polled es (Refused c given, items) = Front es

  after_takes : (again : List Item → Asks (End × List Item)) (es : List Entry) (f : operation.Front) → FrontTakes es f → Allows May Polled es (after again (writer op side) [] (λ g. round again (writer op side) g []) f)
  unfolding bind
  after_takes again es (Goes given) h = h
  after_takes again es (Stays item) h = h
  after_takes again es (Again item) h = absurd h
  after_takes again es (Ends c given) h = (h, λ t fits. let e : Entry = record { op = op; call = call.Shutdown side Send; answer = t } in same_front es e (other_more side es e refl) h)

  poll_takes : (n : ℕ) → Allows May Polled [] (polls (suc n) (writer op side) (Write bytes ∷ []))
  unfolding polls
  poll_takes n = allows_then May FrontTakes Polled [] (writes bytes 0) _ (front_takes bytes 0 [] refl) (after_takes (polls n (writer op side)))

  abbrev Turned : List Entry → Unit {0} × WriteState → Type 0
  Turned es (done, state.Ready half permit) = ⊥
  Turned es (done, state.Writing job) = Polled es (job.end, job.write.left)
  Turned es (done, state.Closing job) = ⊥
  Turned es (done, state.Closed e) = ⊥

  turn_takes : Allows May Turned [] (turn_asks (state.Writing (new_job op side bytes)))
  turn_takes =
      allows_then May (λ es job. Polled es (job.end, job.write.left)) Turned [] (job_asks (new_job op side bytes)) _
      (allows_then May Polled (λ es job. Polled es (job.end, job.write.left)) [] (poll_asks (new_job op side bytes).write) _ (poll_takes 63) (λ es ended h. h))
      (λ es job h. h)

  -- and what the whole write does
  abbrev Over : List Entry → Result (Unit {0}) StreamStop × WriteState → Type 0
  Over es done = Front es × IsTakenBy bytes (taken_in side es) done

  look_takes : (job : Job) (e : End) (es : List Entry) → Polled es (e, job.write.left) → Allows May Over es (bind (look_in op (written_by job e)) (λ looked. Give (begun looked)))
  unfolding bind
  look_takes job Waits es h = ((bytes_left job.write.left, h), h)
  look_takes job (Done given) es h = (
    front_of_all es h,
    λ t fits.
        let e : Entry = record { op = op; call = call.WriteReady job.write.who.side; answer = t } in
        let k : All (es ++ e ∷ []) = other_more side es e refl ∙ h in (front_of_all (es ++ e ∷ []) k, k),
  )
  look_takes job (Refused c given) es h = (h, tt)

  turned_takes : (es : List Entry) (turned : Unit {0} × WriteState) → Turned es turned → Allows May Over es (bind (look_asks op turned.1) (λ looked. Give (begun looked)))
  turned_takes es (done, state.Ready half permit) h = absurd h
  turned_takes es (done, state.Writing job) h = look_takes job job.end es h
  turned_takes es (done, state.Closing job) h = absurd h
  turned_takes es (done, state.Closed e) h = absurd h

  write_takes : Allows May Over [] (write_on_asks op (state.Writing (new_job op side bytes)))
  write_takes = allows_then May Turned Over [] (turn_asks (state.Writing (new_job op side bytes))) _ turn_takes turned_takes

half_takes : (op : OpId) (half : TcpSendStream) (permit : ℕ) (bytes : List ℕ) → Allows (May op half.side bytes) (Over op half.side bytes) [] (write_half_asks op half permit bytes)
half_takes op half permit [] = (([], refl), refl)
half_takes op half permit (b ∷ bytes) =
    allows_if (May op half.side (b ∷ bytes)) (Over op half.side (b ∷ bytes)) [] (nat_lt permit (length (b ∷ bytes))) _ _ (λ over. ((b ∷ bytes, refl), refl)) (λ within. write_takes op half.side (b ∷ bytes))

pub taken_front_of : (op : OpId) (half : TcpSendStream) (permit : ℕ) (bytes : List ℕ) (es : List Entry) (rest : Asks (Result (Unit {0}) StreamStop × WriteState)) → Left (write_half_asks op half permit bytes) es rest → IsFrontOf (taken_in half.side es) bytes
taken_front_of op half permit bytes es rest w =
    holds (Front op half.side bytes) (Over op half.side bytes) (λ fs done h. h.0) es rest (reached (May op half.side bytes) (Over op half.side bytes) [] (write_half_asks op half permit bytes) es rest (half_takes op half permit bytes) w)

pub taken_whole : (op : OpId) (half : TcpSendStream) (permit : ℕ) (bytes : List ℕ) (es : List Entry) (done : Result (Unit {0}) StreamStop × WriteState) → Left (write_half_asks op half permit bytes) es (Give done) → IsTakenBy bytes (taken_in half.side es) done
taken_whole op half permit bytes es done w =
    (reached (May op half.side bytes) (Over op half.side bytes) [] (write_half_asks op half permit bytes) es (Give done) (half_takes op half permit bytes) w).1

-- == the other calls
module _ (op side : OpId) where
  abbrev None : List Entry → Type 0
  None es = taken_in side es ≡ []

  abbrev Quiet : {A : Type 0} → List Entry → Asks A → Type 0
  Quiet es asks = Allows (λ fs id call. None fs) (λ fs a. None fs) es asks

  look_quiet : (s : WriteState) (es : List Entry) → None es → Quiet es (look_in op s)
  unfolding bind
  look_quiet (state.Ready half permit) es h = (h, λ t fits. other_more side es _ refl ∙ h)
  look_quiet (state.Writing job) es h = h
  look_quiet (state.Closing job) es h = h
  look_quiet (state.Closed e) es h = h

  check_quiet : (most : ℕ) (s : WriteState) → Quiet [] (check_write_asks most op s)
  check_quiet most s = allows_then (λ fs id call. None fs) (λ fs a. None fs) (λ fs a. None fs) [] (look_asks op s) _ (look_quiet (collected s) [] refl) (λ es looked h. h)

  end_quiet : (half : TcpReceiveStream) (stop : StreamStop) (es : List Entry) → None es → Quiet es (read_end_asks op (read.Open half) stop)
  unfolding bind
  end_quiet half stop es h = (h, λ t fits. other_more side es _ refl ∙ h)

  after_quiet : (half : TcpReceiveStream) (answer : Result (Answer (List ℕ)) ErrorCode) (es : List Entry) → None es → Quiet es (after_read op (read.Open half) answer)
  after_quiet half (Ok Pending) es h = h
  after_quiet half (Ok (Ready [])) es h = end_quiet half closed es h
  after_quiet half (Ok (Ready (b ∷ bytes))) es h = h
  after_quiet half (Err c) es h = end_quiet half (Failed c) es h

  asks_quiet : (half : TcpReceiveStream) (size : ℕ) → Quiet [] (read_asks op half.side size)
  unfolding bind
  asks_quiet half size =
      allows_if (λ fs id call. None fs) (λ fs a. None fs) [] (size == 0) _ _ (λ none. refl) (λ some. (refl, λ t fits. refl))

  read_quiet : (s : ReadState) (size : ℕ) → Quiet [] (read_state_asks op s size)
  read_quiet (read.Open half) size =
      allows_if (λ fs id call. None fs) (λ fs a. None fs) [] (size == 0) _ _ (λ none. refl)
      (λ some. allows_then (λ fs id call. None fs) (λ fs a. None fs) (λ fs a. None fs) [] (read_asks op half.side size) _ (asks_quiet half size) (λ es answer h. after_quiet half answer es h))
  read_quiet read.Closed size = refl

  quiet_walk : {A : Type 0} (asks : Asks A) (es : List Entry) (rest : Asks A) → Quiet [] asks → Left asks es rest → None es
  quiet_walk asks es rest h w = holds None (λ fs a. None fs) (λ fs a k. k) es rest (reached (λ fs id call. None fs) (λ fs a. None fs) [] asks es rest h w)

pub look_takes_nothing : (op side : OpId) (s : WriteState) (es : List Entry) (rest : Asks (Result (Answer (Unit {0})) StreamStop × WriteState)) → Left (look_asks op s) es rest → taken_in side es ≡ []
look_takes_nothing op side s es rest w = quiet_walk op side (look_asks op s) es rest (look_quiet op side (collected s) [] refl) w

pub check_takes_nothing : (most : ℕ) (op side : OpId) (s : WriteState) (es : List Entry) (rest : Asks (Result ℕ StreamStop × WriteState)) → Left (check_write_asks most op s) es rest → taken_in side es ≡ []
check_takes_nothing most op side s es rest w = quiet_walk op side (check_write_asks most op s) es rest (check_quiet op side most s) w

pub read_takes_nothing : (op side : OpId) (s : ReadState) (size : ℕ) (es : List Entry) (rest : Asks (Result (List ℕ) StreamStop × ReadState)) → Left (read_state_asks op s size) es rest → taken_in side es ≡ []
read_takes_nothing op side s size es rest w = quiet_walk op side (read_state_asks op s size) es rest (read_quiet op side s size) w

-- == a closed one
pub closed_check : (most : ℕ) (op : OpId) (e : WriteError) → check_write_asks most op (state.Closed e) ≡ Give (Err (stop_of e), state.Closed e)
unfolding bind
closed_check most op e = refl
