-- How much a writer holds after each of its moves: no more, but where it gets a permit.
use Rattle.std.proofs.Common.{length-drop}
use Rattle.wasi_tcp.specs.Bounds.{held, length_of, rest_until}
use Rattle.wasi_tcp.specs.declared.writer.WriteState.TheVariants as writing
use Rattle.wasi_world.specs.declared.asks.Polled.{Polled}
use Rattle.wasi_world.specs.declared.asks.Polled.TheVariants as polled
use Rattle.wasi_world.specs.Operation.{less_one}
use Rattle.wasi_walks.proofs.Fronts.{still}
use Rattle.wasi_walks.proofs.fits.Polls.{Anything}
use Rattle.wasi_laws.proofs.Words.{Allows, CloseLast, Collects, Done, End, Entry, ErrorCode, Given, Item, Job, Last, LastAsk, Lasts, LastsAfter, List, NothingLast, Permits, Refused, ShutdownLast, ShutdownSend, Waits, Who, Write, WriteState, WriterMoves, [], ap, arith, bind, bytes_left, closed_by, collected, inl, inr, job_after, last_ask, length, poll_asks, refl, then_closed, told_taken, written_by, ℕ, ◌∷◌, ◌≡◌, ◌≤◌, ◌⊎◌}
use Rattle.wasi_laws.proofs.asks.Fronts.{PollLaw, polls_by}
use Rattle.wasi_laws.proofs.asks.Trees.{GoesOn, InWriting, InClosing}
use Rattle.wasi_laws.proofs.shapes.Shape.{AreOfEnd, AreOfWrite, end_write}
use Rattle.wasi_laws.proofs.shapes.Law.{never}

-- == a job that ended is collected
written_less : (job : Job) (e : End) → job.end ≡ e → held (written_by job e) ≤ length_of (rest_until job e)
written_less job Waits e = rw e (omega arith)
written_less job (Done given) e = omega arith
written_less job (Refused c given) e = omega arith

closed_less : (job : Job) (e : End) → job.end ≡ e → held (closed_by job e) ≤ length_of (rest_until job e)
closed_less job Waits e = rw e (omega arith)
closed_less job (Done given) e = omega arith
closed_less job (Refused c given) e = omega arith

collected_less : (w : WriteState) → held (collected w) ≤ held w
collected_less (writing.Ready half permit) = omega arith
collected_less (writing.Writing job) = written_less job job.end refl
collected_less (writing.Closing job) = closed_less job job.end refl
collected_less (writing.Closed e) = omega arith

-- == the half is to be closed after the bytes
closing_same : (items : List Item) → bytes_left (then_closed items) ≡ bytes_left items
closing_same [] = refl
closing_same (Write bytes ∷ items) = refl
closing_same (_ ∷ items) = refl

closing_less : (job : Job) (e : End) → length_of (rest_until (record job { write = record { who = job.write.who; left = then_closed job.write.left } }) e) ≤ length_of (rest_until job e)
closing_less job Waits = let same = ap (λ (bytes : List ℕ). length bytes) (closing_same job.write.left) in omega (arith, same)
closing_less job (Done given) = omega arith
closing_less job (Refused c given) = omega arith

-- a move, where so many bytes are left to the writer
pub moves_less : {most : ℕ} (w now : WriteState) → WriterMoves most w now → (held now ≤ held w) ⊎ (held now ≤ most)
moves_less _ _ (Collects w) = inl (collected_less w)
moves_less _ _ (Permits half old n fits) = inr fits
moves_less _ _ (Lasts job) = inl (omega arith)
moves_less _ _ (LastsAfter job) = inl (closing_less job job.end)
moves_less w _ _ = inl (omega arith)

-- == a poll of a write
-- what is still to be written isn't more than it was
still_less : (told : Polled ℕ) (b : ℕ) (bytes : List ℕ) → length (still told b bytes) ≤ length (b ∷ bytes)
still_less (polled.Ready n) b bytes = let less = length-drop (less_one n) bytes in omega (arith, less)
still_less polled.Pending b bytes = omega arith
still_less (polled.Code c) b bytes = omega arith

end_holds : (items : List Item) → AreOfEnd items → length (bytes_left items) ≡ 0
end_holds [] k = refl
end_holds (ShutdownSend ∷ items) k = refl
end_holds (Last c given ∷ items) k = refl
end_holds (_ ∷ items) k = absurd k.0

abbrev job_holds : Job → ℕ
job_holds job = length_of (rest_until job job.end)

module _ (n : ℕ) where
  abbrev LeavesLess : Who → End × List Item → Type 0
  LeavesLess who ended = job_holds (job_after who ended) ≤ n

  last_less : (who : Who) (es : List Entry) (a : LastAsk) (c : ErrorCode) (given : Given) → Allows Anything (λ fs ended. LeavesLess who ended) es (last_ask who a c given)
  unfolding bind
  last_less who es NothingLast c given = omega arith
  last_less who es CloseLast c given = (tt, λ told fits. omega arith)
  last_less who es ShutdownLast c given = (tt, λ told fits. omega arith)

  poll_less : (who : Who) → PollLaw Anything who (λ es items. AreOfWrite items × (length (bytes_left items) ≤ n)) (λ es ended. LeavesLess who ended)
  poll_less who = record {
    asks = λ es i items c a k. (tt, λ told fits. k);
    writes = λ es b bytes items k. (tt, λ told fits front. (k.0, (let less = still_less (told_taken told) b bytes in let was = k.1 in omega (arith, less, was))));
    becomes = λ es i j items b k. absurd (never i j b k.0.0);
    drops = λ es i items s k. (end_write items k.0.1, (let none = end_holds items k.0.1 in omega (arith, none)));
    ends = λ es i items c given k. last_less who es who.last c given;
    waits = λ es items k. k.1;
    done = λ es given m k. omega arith;
  }

-- a writer that goes on with its job
pub turned_less : (es : List Entry) (w : WriteState) (job : Job) (now : Job → WriteState) → GoesOn w job now → AreOfWrite job.write.left → Allows Anything (λ fs ended. held (now (job_after job.write.who ended)) ≤ held w) es (poll_asks job.write)
turned_less es _ _ _ (InWriting job e) k = polls_by (poll_less (job_holds job) job.write.who) job.write.left es (k, (rw e (omega arith)))
turned_less es _ _ _ (InClosing job e) k = polls_by (poll_less (job_holds job) job.write.who) job.write.left es (k, (rw e (omega arith)))
