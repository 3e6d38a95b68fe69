-- What a script's record says of each end.
use Rattle.wasi_run.proofs.Words.{◌≡◌, ◌∙◌, ap, sym, refl, ℕ, ◌+◌, ◌≤◌, List, [], length, take, Result, Ok, Err, append-nil, inl, inr, arith, take_all, WasiSocketsCtx, Seen, Give, Reading, Writing, Gave, Took, Machine, Step, Reply, LinesEnd, RunError, Memory, BadStep, TooLong, ReadFault, WriteFault, first_state, run, lines_of, after_lines, StartWith, AsksNothing, LinesRan, Beyond, Wrote, texts}
use Rattle.wasi_world.specs.Asks.{Reaches}
use Rattle.wasi_run.specs.declared.lines.LinesEnd.TheVariants as lines
use Rattle.wasi_run.specs.declared.run.RunEnd.{RunEnd}
use Rattle.wasi_run.specs.declared.run.RunEnd.TheVariants as end
use Rattle.wasi_run.specs.Script.{Answers, RanScript}
use Rattle.wasi_run.specs.Causes.{DoneLines, ReadsAll, StopsAtTrap, StopsAtBadStep, StopsTooLong, StopsAtReadFault, StopsAtWriteFault, StopsForMemory}

-- every reply was written, and nothing was asked beyond
abbrev IsWhole : Result LinesEnd RunError → Type 0
IsWhole (Err Memory) = ⊥
IsWhole (Err WriteFault) = ⊥
IsWhole _ = Unit {0}

whole_asked : (contexts : List WasiSocketsCtx) (outcome : Result LinesEnd RunError) (state : Machine) (line : ℕ) (met : List Step) (seen now : Seen) → IsWhole outcome → Beyond contexts outcome state line met seen now → (met ≡ []) × (now ≡ seen)
whole_asked contexts (Err Memory) state line met seen now h b = absurd h
whole_asked contexts (Err WriteFault) state line met seen now h b = absurd h
whole_asked contexts _ state line met seen now h b = b

whole_written : (outcome : Result LinesEnd RunError) (replies : List Reply) (written : List ℕ) → IsWhole outcome → Wrote outcome replies written → written ≡ texts replies
whole_written (Err WriteFault) replies written h w = absurd h
whole_written (Ok lines.Trapped) replies written h w = w.1
whole_written _ replies written h w = w.1

module _ {contexts : List WasiSocketsCtx} {w_old stopped : Seen} {k_old k_new : Writing} {all : List (List ℕ)} {outcome : Result LinesEnd RunError} {last : Machine} where
  spelled : (r : LinesRan contexts w_old stopped k_old k_new first_state 1 all outcome last) → IsWhole outcome → StartWith (length contexts) all r.steps
  spelled r h = let b = whole_asked contexts outcome r.state (1 + length r.steps) r.met r.seen stopped h r.beyond in rw (b.0, append-nil) at r.first_lines

  reached : (r : LinesRan contexts w_old stopped k_old k_new first_state 1 all outcome last) → IsWhole outcome → Reaches (run contexts [] first_state 1 r.steps) (Give (r.replies, r.state)) w_old stopped
  reached r h = let b = whole_asked contexts outcome r.state (1 + length r.steps) r.met r.seen stopped h r.beyond in rw b.1 (r.ran [])

  written : (r : LinesRan contexts w_old stopped k_old k_new first_state 1 all outcome last) → IsWhole outcome → Took k_old (texts r.replies) k_new
  written r h = rw (whole_written outcome r.replies r.written h r.wrote) at r.took

module _ {contexts : List WasiSocketsCtx} {limit : ℕ} {before after : Reading} {w_old stopped w_new : Seen} {k_old k_new : Writing} {last : Machine} {outcome : Result LinesEnd RunError} where
  abbrev done_lines : (text : List ℕ) → Gave before text after → (r : LinesRan contexts w_old stopped k_old k_new first_state 1 (lines_of (take limit text)) outcome last) → IsWhole outcome → AsksNothing stopped w_new → DoneLines contexts limit before after k_old k_new w_old w_new
  done_lines text gave r h quiet = record {
    text = text;
    gave = gave;
    steps = r.steps;
    first_lines = spelled r h;
    replies = r.replies;
    state = r.state;
    stopped = stopped;
    ran = reached r h;
    quiet = quiet;
    answered = r.answered;
    took = written r h;
  }

-- the lines of a text that lies within the limit
lines_within : (limit count : ℕ) (text : List ℕ) → length text ≤ limit → count ≡ length (lines_of (take limit text)) → count ≡ length (lines_of text)
lines_within limit count text h e = e ∙ ap (λ t. length (lines_of t)) (take_all limit text h)

module _ {contexts : List WasiSocketsCtx} {limit : ℕ} {before after : Reading} {w_old stopped w_new : Seen} {k_old k_new : Writing} {last : Machine} where
  pub whole_by : (text : List ℕ) (a : RunEnd) → Gave before text after → (outcome : Result LinesEnd RunError) → LinesRan contexts w_old stopped k_old k_new first_state 1 (lines_of (take limit text)) outcome last → Answers limit text before after outcome (Ok a) → AsksNothing stopped w_new → DoneLines contexts limit before after k_old k_new w_old w_new
  whole_by text a gave (Ok lines.AllDone) r h quiet = done_lines text gave r tt quiet
  whole_by text a gave (Ok lines.Trapped) r h quiet = done_lines text gave r tt quiet
  whole_by text a gave _ r h quiet = absurd h

  read_by : (text : List ℕ) → Gave before text after → (outcome : Result LinesEnd RunError) → LinesRan contexts w_old stopped k_old k_new first_state 1 (lines_of (take limit text)) outcome last → Answers limit text before after outcome (Ok end.AllRead) → AsksNothing stopped w_new → ReadsAll contexts limit before after k_old k_new w_old w_new
  read_by text gave (Ok lines.AllDone) r h quiet = record {
    done = done_lines text gave r tt quiet;
    within = h.1;
    all = lines_within limit (length r.steps) text h.1 r.cause.count;
    whole = h.2;
    no_trap = r.wrote.0;
    ended = h.0;
  }
  read_by text gave _ r h quiet = absurd h

  trap_by : (text : List ℕ) → Gave before text after → (outcome : Result LinesEnd RunError) → (r : LinesRan contexts w_old stopped k_old k_new first_state 1 (lines_of (take limit text)) outcome last) → Answers limit text before after outcome (Ok end.Trapped) → length (after_lines (length r.steps) text) ≤ 4095 → AsksNothing stopped w_new → StopsAtTrap 4095 contexts limit before after k_old k_new w_old w_new
  trap_by text gave (Ok lines.Trapped) r h f quiet = record { done = done_lines text gave r tt quiet; trap = r.wrote.0; ahead = f }
  trap_by text gave _ r h f quiet = absurd h

  bad_by : (text : List ℕ) (n : ℕ) → Gave before text after → (outcome : Result LinesEnd RunError) → LinesRan contexts w_old stopped k_old k_new first_state 1 (lines_of (take limit text)) outcome last → Answers limit text before after outcome (Err (BadStep n)) → AsksNothing stopped w_new → StopsAtBadStep contexts limit before after k_old k_new w_old w_new n
  bad_by text n gave (Ok lines.AllDone) r h quiet = record {
    done = done_lines text gave r tt quiet;
    number = h.3 ∙ ap (λ k. k + 1) (sym (lines_within limit (length r.steps) text h.1 r.cause.count));
    bad = inr (record { within = h.1; all = lines_within limit (length r.steps) text h.1 r.cause.count; rest = h.2; ended = h.0 });
    no_trap = r.wrote.0;
  }
  bad_by text n gave (Err (BadStep m)) r h quiet =
      let e : m ≡ n = cc in
      record {
        done = done_lines text gave r tt quiet;
        number = omega (arith, e, r.cause.0);
        bad = inl r.cause.1;
        no_trap = r.wrote.0;
      }
  bad_by text n gave _ r h quiet = absurd (grind (arith, h, r.cause))

  long_by : (text : List ℕ) → Gave before text after → (outcome : Result LinesEnd RunError) → LinesRan contexts w_old stopped k_old k_new first_state 1 (lines_of (take limit text)) outcome last → Answers limit text before after outcome (Err TooLong) → AsksNothing stopped w_new → StopsTooLong contexts limit before after k_old k_new w_old w_new
  long_by text gave (Ok lines.AllDone) r h quiet = record { done = done_lines text gave r tt quiet; past = h; all = r.cause.count; no_trap = r.wrote.0 }
  long_by text gave _ r h quiet = absurd (grind (arith, h, r.cause))

  fault_by : (text : List ℕ) → Gave before text after → (outcome : Result LinesEnd RunError) → LinesRan contexts w_old stopped k_old k_new first_state 1 (lines_of (take limit text)) outcome last → Answers limit text before after outcome (Err ReadFault) → AsksNothing stopped w_new → StopsAtReadFault contexts limit before after k_old k_new w_old w_new
  fault_by text gave (Ok lines.AllDone) r h quiet = record { done = done_lines text gave r tt quiet; rose = h; all = r.cause.count; no_trap = r.wrote.0 }
  fault_by text gave _ r h quiet = absurd (grind (arith, h, r.cause))

  cut_by : (text : List ℕ) → Gave before text after → (outcome : Result LinesEnd RunError) → LinesRan contexts w_old stopped k_old k_new first_state 1 (lines_of (take limit text)) outcome last → Answers limit text before after outcome (Err WriteFault) → AsksNothing stopped w_new → StopsAtWriteFault contexts limit before after k_old k_new w_old w_new
  cut_by text gave (Ok lines.AllDone) r h quiet = absurd h
  cut_by text gave (Err WriteFault) r h quiet =
      let b = r.beyond in
      record {
        rose = r.counted;
        text = text;
        gave = gave;
        steps = r.steps;
        first_lines = rw (b.0, append-nil) at r.first_lines;
        replies = r.replies;
        state = r.state;
        stopped = stopped;
        ran = rw b.1 (r.ran []);
        quiet = quiet;
        answered = r.answered;
        written = r.written;
        took = r.took;
        cut = r.wrote;
      }
  cut_by text gave _ r h quiet = absurd (grind (arith, h, r.cause))

  memory_by : (text : List ℕ) → Gave before text after → (outcome : Result LinesEnd RunError) → LinesRan contexts w_old stopped k_old k_new first_state 1 (lines_of (take limit text)) outcome last → Answers limit text before after outcome (Err Memory) → AsksNothing stopped w_new → StopsForMemory contexts limit before after k_old k_new w_old w_new
  memory_by text gave (Ok lines.AllDone) r h quiet = absurd h
  memory_by text gave (Err Memory) r h quiet = record {
    text = text;
    gave = gave;
    steps = r.steps;
    met = r.met;
    first_lines = r.first_lines;
    replies = r.replies;
    state = r.state;
    seen = r.seen;
    ran = r.ran [];
    stopped = stopped;
    first_asks = r.beyond;
    quiet = quiet;
    answered = r.answered;
    took = rw r.wrote.1 at r.took;
    counted = r.counted;
    no_trap = r.wrote.0;
  }
  memory_by text gave _ r h quiet = absurd (grind (arith, h, r.cause))

module _ {contexts : List WasiSocketsCtx} {limit : ℕ} {before after : Reading} {w_old w_new : Seen} {k_old k_new : Writing} where
  pub reads_all : RanScript contexts limit before after k_old k_new w_old w_new (Ok end.AllRead) → ReadsAll contexts limit before after k_old k_new w_old w_new
  reads_all h = read_by h.over.text h.over.gave h.over.outcome h.over.ran h.over.answer h.quiet

  pub stops_at_trap : RanScript contexts limit before after k_old k_new w_old w_new (Ok end.Trapped) → StopsAtTrap 4095 contexts limit before after k_old k_new w_old w_new
  stops_at_trap h = trap_by h.over.text h.over.gave h.over.outcome h.over.ran h.over.answer (h.over.ahead refl) h.quiet

  pub stops_at_bad_step : {n : ℕ} → RanScript contexts limit before after k_old k_new w_old w_new (Err (BadStep n)) → StopsAtBadStep contexts limit before after k_old k_new w_old w_new n
  stops_at_bad_step {n} h = bad_by h.over.text n h.over.gave h.over.outcome h.over.ran h.over.answer h.quiet

  pub stops_too_long : RanScript contexts limit before after k_old k_new w_old w_new (Err TooLong) → StopsTooLong contexts limit before after k_old k_new w_old w_new
  stops_too_long h = long_by h.over.text h.over.gave h.over.outcome h.over.ran h.over.answer h.quiet

  pub stops_at_read_fault : RanScript contexts limit before after k_old k_new w_old w_new (Err ReadFault) → StopsAtReadFault contexts limit before after k_old k_new w_old w_new
  stops_at_read_fault h = fault_by h.over.text h.over.gave h.over.outcome h.over.ran h.over.answer h.quiet

  pub stops_at_write_fault : RanScript contexts limit before after k_old k_new w_old w_new (Err WriteFault) → StopsAtWriteFault contexts limit before after k_old k_new w_old w_new
  stops_at_write_fault h = cut_by h.over.text h.over.gave h.over.outcome h.over.ran h.over.answer h.quiet

  pub stops_for_memory : RanScript contexts limit before after k_old k_new w_old w_new (Err Memory) → StopsForMemory contexts limit before after k_old k_new w_old w_new
  stops_for_memory h = memory_by h.over.text h.over.gave h.over.outcome h.over.ran h.over.answer h.quiet
