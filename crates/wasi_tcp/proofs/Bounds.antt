-- One poll of a write makes few calls.
use Rattle.std.proofs.Common.{sym, subst, ℕ, zero, suc, ◌+◌, ◌≤◌, Bool, true, false, List, [], ◌∷◌, ◌++◌, length, length-append, refl, arith}
use Rattle.wasi_addr.specs.declared.code.ErrorCode.{ErrorCode}
use Rattle.wasi_world.specs.declared.ids.OpId.{OpId}
use Rattle.wasi_world.specs.declared.asks.Polled.{Polled}
use Rattle.wasi_world.specs.declared.asks.Polled.TheVariants as polled
use Rattle.wasi_world.specs.declared.call.Call.{Call}
use Rattle.wasi_world.specs.declared.call.Entry.{Entry}
use Rattle.wasi_world.specs.Typed.{told_taken}
use Rattle.wasi_world.specs.Asks.{Asks, bind, Left}
use Rattle.wasi_world.specs.Operation.{Given, Nothing, Item, Write, Operation, Front, Goes, Stays, Again, Ends, End, Waits, Done, Refused, write_front, taken_front, last_ask, after, round, polls, poll_asks}
use Rattle.wasi_world.proofs.Allowed.{Allows, allows_then, reached, holds}
use Rattle.wasi_tcp.specs.declared.job.WriteStage.{WriteStage}
use Rattle.wasi_tcp.specs.declared.job.WriteStage.TheVariants as stage
use Rattle.wasi_tcp.specs.declared.writer.WriteState.{WriteState}
use Rattle.wasi_tcp.specs.declared.writer.WriteState.TheVariants as state
use Rattle.wasi_tcp.specs.Job.{Job, writer, closed_after, write_left, write_job, job_in, job_asks}
use Rattle.wasi_tcp.specs.Taken.{bytes_left}
use Rattle.wasi_tcp.specs.Writer.{turn_asks}
use Rattle.wasi_tcp.specs.Bounds.{IsWrite, HoldsWrite, most_until, most_polled, most_turned}

-- == at most so many asks
abbrev May : ℕ → List Entry → OpId → Call → Type 0
May most es op call = length es ≤ most

abbrev Few : {A : Type 0} → ℕ → List Entry → A → Type 0
Few most es a = length es ≤ most

one_more : (es : List Entry) (e : Entry) (n : ℕ) → length es + 1 ≤ n → length (es ++ e ∷ []) ≤ n
one_more es e n h = omega (arith, length-append es (e ∷ []), h)

within : {A : Type 0} (most : ℕ) (asks : Asks A) (es : List Entry) (rest : Asks A) → Allows (May most) (Few most) [] asks → Left asks es rest → length es ≤ most
within most asks es rest h w = holds (λ fs. length fs ≤ most) (Few most) (λ fs a k. k) es rest (reached (May most) (Few most) [] asks es rest h w)

-- == of a write
module _ (op side : OpId) (most : ℕ) where
  -- after the bytes there may be one ask more, unless the poll ends here
  abbrev FrontFew : List Entry → Front → Type 0
  FrontFew es (Goes given) = length es + 1 ≤ most
  FrontFew es (Stays item) = length es ≤ most
  FrontFew es (Again item) = ⊥
  FrontFew es (Ends c given) = length es + 1 ≤ most

  abbrev writes : List ℕ → ℕ → Asks Front
  writes left skip = write_front (writer op side) left skip

  told_few : (left : List ℕ) (item : Item) (es : List Entry) → length es + length left + 1 ≤ most → ((skip : ℕ) → Allows (May most) FrontFew es (writes left skip)) → (told : Polled ℕ) → Allows (May most) FrontFew es (taken_front (writes left) item told)
  told_few left item es h next (polled.Ready n) = next _
  told_few left item es h next polled.Pending = omega (arith, h)
  told_few left item es h next (polled.Code c) = omega (arith, h)

  -- each ask takes a byte at least
  front_few : (left : List ℕ) (skip : ℕ) (es : List Entry) → length es + length left + 1 ≤ most → Allows (May most) FrontFew es (writes left skip)
  unfolding bind
  front_few [] skip es h = omega (arith, h)
  front_few (b ∷ left) (suc skip) es h = front_few left skip es (omega (arith, h))
  front_few (b ∷ left) zero es h = (
    omega (arith, h),
    λ t fits front.
        let fewer : (e : Entry) → length (es ++ e ∷ []) + length left + 1 ≤ most = λ e. omega (arith, length-append es (e ∷ []), h) in
        told_few left (Write (b ∷ left)) _ (fewer _) (λ skip. front_few left skip _ (fewer _)) (told_taken t),
  )

  last_few : (es : List Entry) (c : ErrorCode) (given : Given) → length es + 1 ≤ most → Allows (May most) (Few most) es (last_ask (writer op side) (writer op side).last c given)
  unfolding bind
  last_few es c given h = (omega (arith, h), λ t fits. one_more es _ most h)

  close_few : (again : List Item → Asks (End × List Item)) (given : Given) (es : List Entry) → length es + 1 ≤ most → Allows (May most) (Few most) es (round again (writer op side) given (closed_after true))
  unfolding bind
  close_few again given es h = (omega (arith, h), λ t fits. one_more es _ most h)

  then_few : (again : List Item → Asks (End × List Item)) (given : Given) (closing : Bool) (es : List Entry) → length es + 1 ≤ most → Allows (May most) (Few most) es (round again (writer op side) given (closed_after closing))
  then_few again given true es h = close_few again given es h
  then_few again given false es h = omega (arith, h)

  after_few : (again : List Item → Asks (End × List Item)) (closing : Bool) (es : List Entry) (f : Front) → FrontFew es f → Allows (May most) (Few most) es (after again (writer op side) (closed_after closing) (λ g. round again (writer op side) g (closed_after closing)) f)
  after_few again closing es (Goes given) h = then_few again given closing es h
  after_few again closing es (Stays item) h = h
  after_few again closing es (Again item) h = absurd h
  after_few again closing es (Ends c given) h = last_few es c given h

  polls_few : (n : ℕ) (rest : List ℕ) (closing : Bool) (s : WriteStage) → length (bytes_left (write_left rest closing s)) + 1 ≤ most → Allows (May most) (Few most) [] (polls (suc n) (writer op side) (write_left rest closing s))
  unfolding polls bind
  polls_few n rest closing stage.Write h =
      allows_then (May most) FrontFew (Few most) [] (writes rest 0) _ (front_few rest 0 [] (omega (arith, h))) (after_few (polls n (writer op side)) closing)
  polls_few n rest closing stage.Close h = close_few (polls n (writer op side)) Nothing [] h
  polls_few n rest closing (stage.Refused c) h = last_few [] c Nothing h
  polls_few n rest closing stage.Written h = omega (arith, h)
  polls_few n rest closing (stage.Failed c) h = omega (arith, h)

-- == of a job
pub is_write : (op side : OpId) (rest : List ℕ) (closing : Bool) (s : WriteStage) → IsWrite (write_job op side rest closing s)
is_write op side rest closing s = record { op = op; side = side; rest = rest; closing = closing; stage = s; write = refl }

same_most : (n : ℕ) → n ≤ n
same_most n = omega arith

poll_few : (job : Job) → IsWrite job → Allows (May (length (bytes_left job.write.left) + 1)) (Few (length (bytes_left job.write.left) + 1)) [] (poll_asks job.write)
poll_few job h =
    let P : Operation → Type 0 = λ w. Allows (May (length (bytes_left w.left) + 1)) (Few (length (bytes_left w.left) + 1)) [] (poll_asks w) in
    subst P (sym h.write) (polls_few h.op h.side _ 63 h.rest h.closing h.stage (same_most _))

in_few : (job : Job) (e : End) → IsWrite job → Allows (May (most_until job e)) (Few (most_until job e)) [] (job_in job e)
in_few job Waits h = allows_then (May (most_until job Waits)) (Few (most_until job Waits)) (Few (most_until job Waits)) [] (poll_asks job.write) _ (poll_few job h) (λ es ended k. k)
in_few job (Done given) h = same_most 0
in_few job (Refused c given) h = same_most 0

pub poll_is_bounded : (job : Job) (es : List Entry) (rest : Asks Job) → IsWrite job → Left (job_asks job) es rest → length es ≤ most_polled job
poll_is_bounded job es rest h w = within (most_polled job) (job_asks job) es rest (in_few job job.end h) w

turn_few : (s : WriteState) → HoldsWrite s → Allows (May (most_turned s)) (Few (most_turned s)) [] (turn_asks s)
turn_few (state.Ready half permit) h = same_most 0
turn_few (state.Writing job) h = allows_then (May (most_polled job)) (Few (most_polled job)) (Few (most_polled job)) [] (job_asks job) _ (in_few job job.end h) (λ es j k. k)
turn_few (state.Closing job) h = allows_then (May (most_polled job)) (Few (most_polled job)) (Few (most_polled job)) [] (job_asks job) _ (in_few job job.end h) (λ es j k. k)
turn_few (state.Closed e) h = same_most 0

pub turn_is_bounded : (s : WriteState) (es : List Entry) (rest : Asks (Unit {0} × WriteState)) → HoldsWrite s → Left (turn_asks s) es rest → length es ≤ most_turned s
turn_is_bounded s es rest h w = within (most_turned s) (turn_asks s) es rest (turn_few s h) w
