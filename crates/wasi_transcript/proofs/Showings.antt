-- The transcript of the lines so far, and how each line continues from there.
use Rattle.std.proofs.Common.{◌≡◌, ◌≢◌, ◌∙◌, ap, sym, refl, subst, ℕ, suc, ◌+◌, ◌-◌, ◌<◌, ◌≤◌, ◌^◌, Bool, true, false, List, [], ◌∷◌, ◌++◌, length, take, Some, None, Result, Ok, Err, append-nil, length-append, length-take, arith, inl, inr, ◌⊎◌}
use Rattle.std.proofs.Math.Seq.{take-nil}
use Rattle.std.specs.declared.alloc.AllocError.{AllocError}
use Rattle.wasi_world.specs.declared.call.Entry.{Entry}
use Rattle.wasi_world.specs.declared.outcome.WasiSocketsCtx.{WasiSocketsCtx}
use Rattle.wasi_world.specs.Asks.{Asks, Left}
use Rattle.world_io.specs.Io.{Reading, Writing, Gave, Took, SameCounts}
use Rattle.world_text.specs.Lines.{lines_of, rest_of}
use Rattle.wasi_world.specs.Seen.{Seen}
use Rattle.world_text.proofs.LinesOf.{count_lines}
use Rattle.host_store.specs.declared.machine.Machine.{Machine}
use Rattle.host_store.specs.Machine.{first_state}
use Rattle.host_store.specs.KnownSides.{KnowsSides}
use Rattle.wasi_run.specs.declared.run.RunEnd.TheVariants as end
use Rattle.wasi_run.specs.declared.error.RunError.{RunError}
use Rattle.wasi_run.specs.declared.error.RunError.TheVariants.{Memory, BadStep, TooLong, ReadFault, WriteFault}
use Rattle.wasi_calls.specs.declared.progress.Progress.{Progress}
use Rattle.wasi_run.specs.Ran.{NoTrap}
use Rattle.wasi_steps.specs.declared.reply.Reply.{Reply}
use Rattle.wasi_steps.specs.declared.step.Step.{Step}
use Rattle.wasi_machine.specs.Machine.{machine_asks}
use Rattle.wasi_steps.specs.Steps.{step_of}
use Rattle.world_io.specs.Written.{TookAll, TookPart}
use Rattle.world_io.proofs.Gave.{gave_again, gave_none}
use Rattle.world_io.proofs.Took.{took_again, took_none, same_again, same_none, rose_again}
use Rattle.wasi_transcript.specs.declared.lines.NextLine.TheVariants as next
use Rattle.wasi_transcript.specs.Reading.{Held, with_more, Reads}
use Rattle.wasi_transcript.specs.Transcript.{Exchange, exchanges_text, lines_in, replies_in, calls_in, IsDone, AreDone, Logged}
use Rattle.wasi_transcript.specs.Done.{Exchanged, Starved}
use Rattle.wasi_transcript.specs.Shown.{Done, IsMet}
use Rattle.wasi_transcript.specs.Showing.{LinesShown}
use Rattle.wasi_transcript.proofs.Conversation.{done_on, no_trap_on, replies_on, lines_on, calls_on, texts_on, logged_again, logged_as, logged_nothing, lines_more, rest_more}

-- an error that is that of a failed write
abbrev failed_with : RunError → Result (Unit {0}) RunError
failed_with e = Err e

pub fault_is : {x : RunError} → failed_with x ≡ failed_with WriteFault → x ≡ WriteFault
fault_is h = cc

count_of : (exchanges : List Exchange) → length (lines_in exchanges) ≡ length exchanges
count_of [] = refl
count_of (x ∷ xs) = ap suc (count_of xs)

some_byte : (bytes : List ℕ) → bytes ≢ [] → 0 < length bytes
some_byte [] h = absurd (h refl)
some_byte (b ∷ bytes) h = omega arith

-- These lines were done and printed, and these are left of what was read.
pub record Showing (contexts : List WasiSocketsCtx) (limit : ℕ) (s_old s_now : Reading) (k_old k_now : Writing) (w_old w_now : Seen) (machine : Machine) (number taken : ℕ) (left : List (List ℕ)) (rest : List ℕ) : Type 0 where
  pub text : List ℕ
  pub gave : Gave s_old text s_now
  pub so_far : taken ≡ length text
  pub exchanges : List Exchange
  pub done : AreDone contexts first_state 1 exchanges machine
  pub no_trap : NoTrap (replies_in exchanges)
  pub count : number ≡ length exchanges
  pub logged : Logged w_old (calls_in exchanges) w_now
  pub took : Took k_old (exchanges_text exchanges) k_now
  pub counts : SameCounts k_old k_now
  pub lines : lines_of (take limit text) ≡ lines_in exchanges ++ left
  pub rest_is : rest_of (take limit text) ≡ rest
  pub closings : w_now.closings ≡ w_old.closings
  pub sides : KnowsSides w_old first_state.store → KnowsSides w_now machine.store

-- Between two lines: what the reader holds is what is left, and no read failed.
pub record Between (contexts : List WasiSocketsCtx) (limit : ℕ) (s_old s_now : Reading) (k_old k_now : Writing) (w_old w_now : Seen) (progress : Progress) (held : Held) : Type 0 where
  pub showing : Showing contexts limit s_old s_now k_old k_now w_old w_now progress.machine progress.lines held.taken (lines_of held.held) (rest_of held.held)
  pub limit_is : held.limit ≡ limit
  pub faults : s_now.faults ≡ s_old.faults

pub between_start : (contexts : List WasiSocketsCtx) (limit : ℕ) (s : Reading) (k : Writing) (w : Seen) (progress : Progress) (held : Held) → progress.machine ≡ first_state → progress.lines ≡ 0 → held ≡ record { limit = limit; taken = 0; held = [] } → Between contexts limit s s k k w w progress held
between_start contexts limit s k w progress held machine lines is = rw is (record {
  showing = record {
    text = [];
    gave = gave_none {old = s} {new = s} refl;
    so_far = refl;
    exchanges = [];
    done = sym machine;
    no_trap = tt;
    count = lines;
    logged = logged_nothing w;
    took = took_none k;
    counts = same_none k;
    lines = ap lines_of (take-nil limit);
    rest_is = ap rest_of (take-nil limit);
    closings = refl;
    sides = λ held. rw machine held;
  };
  limit_is = refl;
  faults = refl;
})

module _ {contexts : List WasiSocketsCtx} {limit : ℕ} {s_old s_now s_new : Reading} {k_old k_now : Writing} {w_old w_now : Seen} {progress : Progress} {held new : Held} where
  -- more was read
  pub read_more : {line : List ℕ} {result : _} → Between contexts limit s_old s_now k_old k_now w_old w_now progress held → (r : Reads s_now s_new held new line result) → Showing contexts limit s_old s_new k_old k_now w_old w_now progress.machine progress.lines new.taken (lines_of (with_more held r.more)) (rest_of (with_more held r.more))
  read_more b r =
      let s = b.showing in
      let room : limit - length s.text ≡ held.limit - held.taken = omega (arith, b.limit_is, s.so_far) in record {
        text = s.text ++ r.more;
        gave = gave_again s.gave r.gave;
        so_far = omega (arith, r.taken, s.so_far, length-append s.text r.more);
        exchanges = s.exchanges;
        done = s.done;
        no_trap = s.no_trap;
        count = s.count;
        logged = s.logged;
        took = s.took;
        counts = s.counts;
        lines = lines_more limit s.text r.more held.held (lines_in s.exchanges) s.lines s.rest_is ∙ ap (λ n. lines_in s.exchanges ++ lines_of (held.held ++ take n r.more)) room;
        rest_is = rest_more limit s.text r.more held.held s.rest_is ∙ ap (λ n. rest_of (held.held ++ take n r.more)) room;
        closings = s.closings;
        sides = s.sides;
      }

-- the bytes of some lines and what follows them
pub few_lines : (limit number : ℕ) (text : List ℕ) (exchanges : List Exchange) (left : List (List ℕ)) (rest : List ℕ) → number ≡ length exchanges → lines_of (take limit text) ≡ lines_in exchanges ++ left → rest_of (take limit text) ≡ rest → number + length left + length rest ≤ limit
few_lines limit number text exchanges left rest e l r =
    omega (arith, e, count_lines [] (take limit text), ap length l, ap length r, length-append (lines_in exchanges) left, count_of exchanges, length-take limit text)

module _ {contexts : List WasiSocketsCtx} {limit : ℕ} {s_old s_now : Reading} {k_old k_now : Writing} {w_old w_now : Seen} {machine : Machine} {number taken : ℕ} {left : List (List ℕ)} {rest : List ℕ} where
  -- what was done so far
  pub done_so_far : (s : Showing contexts limit s_old s_now k_old k_now w_old w_now machine number taken left rest) → taken ≤ limit + 1 → Done contexts limit s_old s_now w_old w_now
  done_so_far s h = record {
    text = s.text;
    gave = s.gave;
    within = omega (arith, s.so_far, h);
    exchanges = s.exchanges;
    left = left;
    lines = s.lines;
    last = machine;
    done = s.done;
    met = [];
    logged = logged_as (sym (append-nil (calls_in s.exchanges))) s.logged;
  }

module _ {contexts : List WasiSocketsCtx} {limit : ℕ} {s_old s_now s_new : Reading} {k_old k_now : Writing} {w_old w_now : Seen} {progress : Progress} {held new : Held} {line : List ℕ} where
  pub within_limit : {result : _} → Between contexts limit s_old s_now k_old k_now w_old w_now progress held → Reads s_now s_new held new line result → new.taken ≤ limit + 1
  within_limit b r = omega (arith, r.within, r.limit, b.limit_is)

  -- memory ran out in reading
  pub starved_in_reading : (e : AllocError) → Between contexts limit s_old s_now k_old k_now w_old w_now progress held → Reads s_now s_new held new line (Err e) → LinesShown contexts limit s_old s_new k_old k_now w_old w_now progress.machine line (Err Memory)
  unfolding done_so_far
  starved_in_reading e b r =
      let s = read_more b r in
      record { done = done_so_far s (within_limit b r); stops = inl refl; written = exchanges_text s.exchanges; took = s.took; wrote = (refl, s.counts); closings = s.closings; sides = s.sides }

  -- all lines were done
  pub read_all : Between contexts limit s_old s_now k_old k_now w_old w_now progress held → Reads s_now s_new held new line (Ok next.End) → LinesShown contexts limit s_old s_new k_old k_now w_old w_now progress.machine line (Ok end.AllRead)
  unfolding done_so_far
  read_all b r =
      let s = read_more b r in record {
        done = done_so_far s (within_limit b r);
        stops = (r.found.2, omega (arith, s.so_far, r.found.3, r.limit, b.limit_is), r.found.0, s.rest_is ∙ r.found.1, s.no_trap, refl);
        written = exchanges_text s.exchanges;
        took = s.took;
        wrote = (refl, s.counts);
        closings = s.closings;
        sides = s.sides;
      }

  -- the source gave its end inside a line
  pub read_part : Between contexts limit s_old s_now k_old k_now w_old w_now progress held → Reads s_now s_new held new line (Ok next.Unfinished) → LinesShown contexts limit s_old s_new k_old k_now w_old w_now progress.machine line (Err (BadStep (progress.lines + 1)))
  unfolding done_so_far
  read_part b r =
      let s = read_more b r in record {
        done = done_so_far s (within_limit b r);
        stops = (ap (λ n. n + 1) s.count, inr (r.found.0, s.rest_is ∙ r.found.1, r.found.2, r.found.3, omega (arith, s.so_far, r.found.4, r.limit, b.limit_is)), s.no_trap, refl);
        written = exchanges_text s.exchanges;
        took = s.took;
        wrote = (refl, s.counts);
        closings = s.closings;
        sides = s.sides;
      }

  -- the script is longer than the limit
  pub read_long : Between contexts limit s_old s_now k_old k_now w_old w_now progress held → Reads s_now s_new held new line (Ok next.TooLong) → LinesShown contexts limit s_old s_new k_old k_now w_old w_now progress.machine line (Err TooLong)
  unfolding done_so_far
  read_long b r =
      let s = read_more b r in record {
        done = done_so_far s (within_limit b r);
        stops = (omega (arith, s.so_far, r.found.1, r.limit, b.limit_is), r.found.0, s.no_trap, refl);
        written = exchanges_text s.exchanges;
        took = s.took;
        wrote = (refl, s.counts);
        closings = s.closings;
        sides = s.sides;
      }

  -- a read failed
  pub read_failed : Between contexts limit s_old s_now k_old k_now w_old w_now progress held → Reads s_now s_new held new line (Ok next.Failed) → LinesShown contexts limit s_old s_new k_old k_now w_old w_now progress.machine line (Err ReadFault)
  unfolding done_so_far
  read_failed b r =
      let s = read_more b r in record {
        done = done_so_far s (within_limit b r);
        stops = (rw b.faults at r.found, s.no_trap, refl);
        written = exchanges_text s.exchanges;
        took = s.took;
        wrote = (refl, s.counts);
        closings = s.closings;
        sides = s.sides;
      }

  -- a line was read: it is the first that is left
  pub at_line : Between contexts limit s_old s_now k_old k_now w_old w_now progress held → Reads s_now s_new held new line (Ok next.Whole) → Showing contexts limit s_old s_new k_old k_now w_old w_now progress.machine progress.lines new.taken (line ∷ lines_of new.held) (rest_of new.held)
  at_line b r = rw (r.found.0, r.found.1) at (read_more b r)

  -- its number fits
  pub line_fits : limit < 2 ^ 32 → Between contexts limit s_old s_now k_old k_now w_old w_now progress held → Reads s_now s_new held new line (Ok next.Whole) → progress.lines + 1 < 2 ^ 32
  line_fits fits b r =
      let s = at_line b r in
      let f = few_lines limit progress.lines s.text s.exchanges (line ∷ lines_of new.held) (rest_of new.held) s.count s.lines s.rest_is in omega (arith, f, fits)

  -- so does that of a line that isn't whole
  pub part_fits : limit < 2 ^ 32 → Between contexts limit s_old s_now k_old k_now w_old w_now progress held → Reads s_now s_new held new line (Ok next.Unfinished) → progress.lines + 1 < 2 ^ 32
  part_fits fits b r =
      let s = read_more b r in
      let f = few_lines limit progress.lines s.text s.exchanges (lines_of (with_more held r.more)) (rest_of (with_more held r.more)) s.count s.lines s.rest_is in
      let some = some_byte line r.found.2 in omega (arith, f, ap length r.found.1, some, fits)

module _ {contexts : List WasiSocketsCtx} {limit : ℕ} {s_old s_now : Reading} {k_old k_now : Writing} {w_old w_now : Seen} {machine : Machine} {number taken : ℕ} {line rest : List ℕ} {more : List (List ℕ)} where
  -- the number of the line
  number_is : (s : Showing contexts limit s_old s_now k_old k_now w_old w_now machine number taken (line ∷ more) rest) → number + 1 ≡ 1 + length s.exchanges
  number_is s = omega (arith, s.count)

module _ {contexts : List WasiSocketsCtx} {limit : ℕ} {s_old s_now : Reading} {k_old k_now : Writing} {w_old w_now w_new : Seen} {machine next : Machine} {number taken : ℕ} {line rest text : List ℕ} {more : List (List ℕ)} {trap : Bool} where
  -- one line more was done
  lines_are : (s : Showing contexts limit s_old s_now k_old k_now w_old w_now machine number taken (line ∷ more) rest) (k : Exchanged contexts machine next (number + 1) line w_now w_new text trap) → lines_of (take limit s.text) ≡ lines_in (s.exchanges ++ k.exchange ∷ []) ++ more
  lines_are s k = s.lines ∙ ap (λ l. lines_in s.exchanges ++ (l ∷ more)) (sym k.line_is) ∙ lines_on s.exchanges k.exchange more

  are_done : (s : Showing contexts limit s_old s_now k_old k_now w_old w_now machine number taken (line ∷ more) rest) (k : Exchanged contexts machine next (number + 1) line w_now w_new text trap) → AreDone contexts first_state 1 (s.exchanges ++ k.exchange ∷ []) next
  are_done s k = done_on contexts s.exchanges k.exchange machine next first_state 1 s.done (let P : ℕ → Type 0 = λ n. IsDone contexts machine n k.exchange next in subst P (number_is s) k.done)

  pub done_line : (s : Showing contexts limit s_old s_now k_old k_now w_old w_now machine number taken (line ∷ more) rest) → Exchanged contexts machine next (number + 1) line w_now w_new text trap → taken ≤ limit + 1 → Done contexts limit s_old s_now w_old w_new
  done_line s k h = record {
    text = s.text;
    gave = s.gave;
    within = omega (arith, s.so_far, h);
    exchanges = s.exchanges ++ k.exchange ∷ [];
    left = more;
    lines = lines_are s k;
    last = next;
    done = are_done s k;
    met = [];
    logged = logged_as (calls_on s.exchanges k.exchange ∙ sym (append-nil (calls_in (s.exchanges ++ k.exchange ∷ [])))) (logged_again s.logged k.logged);
  }

module _ {contexts : List WasiSocketsCtx} {limit : ℕ} {s_old s_now : Reading} {k_old k_now k_new : Writing} {w_old w_now w_new : Seen} {machine next : Machine} {number taken : ℕ} {line rest text : List ℕ} {more : List (List ℕ)} {trap : Bool} where
  -- its part of the transcript was cut
  pub line_cut : Showing contexts limit s_old s_now k_old k_now w_old w_now machine number taken (line ∷ more) rest → Exchanged contexts machine next (number + 1) line w_now w_new text trap → taken ≤ limit + 1 → (KnowsSides w_now machine.store → KnowsSides w_new next.store) → TookPart k_now text k_new → LinesShown contexts limit s_old s_now k_old k_new w_old w_new next line (Err WriteFault)
  unfolding done_line
  line_cut s k h sides f = record {
    done = done_line s k h;
    stops = refl;
    written = exchanges_text s.exchanges ++ take f.cut text;
    took = took_again s.took f.took;
    wrote = (record { front = s.exchanges; last = k.exchange; cut = f.cut; all = refl; short = (let e = ap length k.text_is in omega (arith, f.short, e)); is = ap (λ t. exchanges_text s.exchanges ++ take f.cut t) k.text_is }, rose_again s.counts f.counts);
    closings = k.closings ∙ s.closings;
    sides = λ held. sides (s.sides held);
  }

module _ {contexts : List WasiSocketsCtx} {limit : ℕ} {s_old s_now : Reading} {k_old k_now k_new : Writing} {w_old w_now w_new : Seen} {machine next : Machine} {number taken : ℕ} {line rest text : List ℕ} {more : List (List ℕ)} where
  -- it was the last, whose reply is a trap
  pub line_traps : Showing contexts limit s_old s_now k_old k_now w_old w_now machine number taken (line ∷ more) rest → Exchanged contexts machine next (number + 1) line w_now w_new text true → taken ≤ limit + 1 → (KnowsSides w_now machine.store → KnowsSides w_new next.store) → TookAll k_now text k_new → LinesShown contexts limit s_old s_now k_old k_new w_old w_new next line (Ok end.Trapped)
  unfolding done_line
  line_traps s k h sides a = record {
    done = done_line s k h;
    stops = (record { front = replies_in s.exchanges; last = k.exchange.reply; all = replies_on s.exchanges k.exchange; others = s.no_trap; trap = k.trap_is }, refl);
    written = exchanges_text (s.exchanges ++ k.exchange ∷ []);
    took = rw (k.text_is, texts_on s.exchanges k.exchange) at (took_again s.took a.took);
    wrote = (refl, same_again s.counts a.counts);
    closings = k.closings ∙ s.closings;
    sides = λ held. sides (s.sides held);
  }

  -- the next line
  pub line_done : Showing contexts limit s_old s_now k_old k_now w_old w_now machine number taken (line ∷ more) rest → Exchanged contexts machine next (number + 1) line w_now w_new text false → (KnowsSides w_now machine.store → KnowsSides w_new next.store) → TookAll k_now text k_new → Showing contexts limit s_old s_now k_old k_new w_old w_new next (number + 1) taken more rest
  line_done s k sides a = record {
    text = s.text;
    gave = s.gave;
    so_far = s.so_far;
    exchanges = s.exchanges ++ k.exchange ∷ [];
    done = are_done s k;
    no_trap = no_trap_on s.exchanges k.exchange s.no_trap k.trap_is;
    count = omega (arith, s.count, length-append s.exchanges (k.exchange ∷ []));
    logged = logged_as (calls_on s.exchanges k.exchange) (logged_again s.logged k.logged);
    took = rw (k.text_is, texts_on s.exchanges k.exchange) at (took_again s.took a.took);
    counts = same_again s.counts a.counts;
    lines = lines_are s k;
    rest_is = s.rest_is;
    closings = k.closings ∙ s.closings;
    sides = λ held. sides (s.sides held);
  }

met_line : (contexts : List WasiSocketsCtx) (machine : Machine) (number n : ℕ) (line : List ℕ) (more : List (List ℕ)) (calls : List Entry) → number + 1 ≡ n → (calls ≡ []) ⊎ ((s : Step) × (step_of (length contexts) line ≡ Some s) × ((left : Asks (Reply × Machine)) × Left (machine_asks contexts machine (number + 1) s) calls left)) → IsMet contexts machine n (line ∷ more) calls
met_line contexts machine number n line more calls e (inl none) = inl none
met_line contexts machine number n line more calls e (inr first) =
    inr (line, more, refl, (first.0, first.1, (let P : ℕ → Type 0 = λ n. (left : Asks (Reply × Machine)) × Left (machine_asks contexts machine n first.0) calls left in subst P e first.2)))

module _ {contexts : List WasiSocketsCtx} {limit : ℕ} {s_old s_now : Reading} {k_old k_now : Writing} {w_old w_now w_new : Seen} {machine : Machine} {number taken : ℕ} {line rest : List ℕ} {more : List (List ℕ)} where
  -- memory ran out in the line
  pub line_starved : {last : Machine} (s : Showing contexts limit s_old s_now k_old k_now w_old w_now machine number taken (line ∷ more) rest) → Starved contexts machine (number + 1) line w_now w_new → taken ≤ limit + 1 → (KnowsSides w_now machine.store → KnowsSides w_new last.store) → LinesShown contexts limit s_old s_now k_old k_now w_old w_new last line (Err Memory)
  line_starved s k h sides = record {
    done = record {
      text = s.text;
      gave = s.gave;
      within = omega (arith, s.so_far, h);
      exchanges = s.exchanges;
      left = line ∷ more;
      lines = s.lines;
      last = machine;
      done = s.done;
      met = k.calls;
      logged = logged_again s.logged k.logged;
    };
    stops = met_line contexts machine number (length s.exchanges + 1) line more k.calls (omega (arith, s.count)) k.first;
    written = exchanges_text s.exchanges;
    took = s.took;
    wrote = (refl, s.counts);
    closings = k.closings ∙ s.closings;
    sides = λ held. sides (s.sides held);
  }

module _ {contexts : List WasiSocketsCtx} {limit : ℕ} {s_old s_now : Reading} {k_old k_now : Writing} {w_old w_now : Seen} {machine : Machine} {number taken : ℕ} {line rest : List ℕ} {more : List (List ℕ)} where
  -- the line is no step
  pub line_is_none : (s : Showing contexts limit s_old s_now k_old k_now w_old w_now machine number taken (line ∷ more) rest) → step_of (length contexts) line ≡ None → taken ≤ limit + 1 → LinesShown contexts limit s_old s_now k_old k_now w_old w_now machine line (Err (BadStep (number + 1)))
  unfolding done_so_far
  line_is_none s none h = record {
    done = done_so_far s h;
    stops = (ap (λ n. n + 1) s.count, inl (more, refl, none), s.no_trap, refl);
    written = exchanges_text s.exchanges;
    took = s.took;
    wrote = (refl, s.counts);
    closings = s.closings;
    sides = s.sides;
  }
