-- One run of lines after another.
use Rattle.wasi_run.proofs.LineWords.{◌≡◌, ◌∙◌, ap, sym, refl, subst, ℕ, ◌+◌, ◌<◌, false, List, [], ◌∷◌, ◌++◌, length, take, Result, Ok, Err, append_assoc, append-nil, length-append, arith, WasiSocketsCtx, Seen, Give, Started, Writing, SameCounts, reaches_all, reaches_then, Machine, Step, Reply, text_of, run, KnowsSides}
use Rattle.wasi_run.specs.declared.lines.LinesEnd.{LinesEnd}
use Rattle.wasi_run.specs.declared.lines.LinesEnd.TheVariants as lines
use Rattle.wasi_run.specs.declared.error.RunError.{RunError}
use Rattle.wasi_run.specs.declared.error.RunError.TheVariants.{BadStep, WriteFault}
use Rattle.wasi_run.specs.Lines.{StartWith, BadAfter}
use Rattle.wasi_run.specs.Ran.{texts, NoTrap, OneTrap, CutLast, Beyond, Wrote, Counted, Cause, LinesRan}
use Rattle.world_io.proofs.Took.{took_again, took_none, same_again, same_none, rose_again}
use Rattle.wasi_calls.specs.Stretches.{Stretch}
use Rattle.wasi_calls.proofs.Stretches.{numbered, stretch_none, stretch_then}

-- == lists of replies and of lines
texts-append : (rs qs : List Reply) → texts (rs ++ qs) ≡ texts rs ++ texts qs
texts-append [] qs = refl
texts-append (r ∷ rs) qs = ap (λ t. text_of r ++ t) (texts-append rs qs) ∙ sym (append_assoc (text_of r) (texts rs) (texts qs))

no_trap-append : (rs qs : List Reply) → NoTrap rs → NoTrap qs → NoTrap (rs ++ qs)
no_trap-append [] qs h k = k
no_trap-append (r ∷ rs) qs h k = (h.0, no_trap-append rs qs h.1 k)

one_trap-append : (rs qs : List Reply) → NoTrap rs → OneTrap qs → OneTrap (rs ++ qs)
one_trap-append rs qs h k = record { front = rs ++ k.front; last = k.last; all = ap (λ q. rs ++ q) k.all ∙ sym (append_assoc rs k.front (k.last ∷ [])); others = no_trap-append rs k.front h k.others; trap = k.trap }

cut_last-append : (rs qs : List Reply) (w v : List ℕ) → NoTrap rs → w ≡ texts rs → CutLast qs v → CutLast (rs ++ qs) (w ++ v)
cut_last-append rs qs w v h e k = record {
  front = rs ++ k.front;
  last = k.last;
  cut = k.cut;
  all = ap (λ q. rs ++ q) k.all ∙ sym (append_assoc rs k.front (k.last ∷ []));
  others = no_trap-append rs k.front h k.others;
  short = k.short;
  is = rw (e, k.is, texts-append rs k.front) (sym (append_assoc (texts rs) (texts k.front) (take k.cut (text_of k.last))));
}

start_more : (n : ℕ) (ls more : List (List ℕ)) (xs : List Step) → StartWith n ls xs → StartWith n (ls ++ more) xs
start_more n ls more [] h = tt
start_more n [] more (x ∷ xs) h = absurd h
start_more n (l ∷ ls) more (x ∷ xs) h = (h.0, start_more n ls more xs h.1)

start_then : (n : ℕ) (ls more : List (List ℕ)) (xs ys : List Step) → StartWith n ls xs → length xs ≡ length ls → StartWith n more ys → StartWith n (ls ++ more) (xs ++ ys)
start_then n [] more [] ys h e k = k
start_then n [] more (x ∷ xs) ys h e k = absurd h
start_then n (l ∷ ls) more [] ys h e k = absurd (omega arith)
start_then n (l ∷ ls) more (x ∷ xs) ys h e k = (h.0, start_then n ls more xs ys h.1 (omega arith) k)

bad_more : (n : ℕ) (ls more : List (List ℕ)) (xs : List Step) → BadAfter n ls xs → BadAfter n (ls ++ more) xs
bad_more n [] more xs h = absurd h
bad_more n (l ∷ ls) more [] h = h
bad_more n (l ∷ ls) more (x ∷ xs) h = bad_more n ls more xs h

bad_then : (n : ℕ) (ls more : List (List ℕ)) (xs ys : List Step) → length xs ≡ length ls → BadAfter n more ys → BadAfter n (ls ++ more) (xs ++ ys)
bad_then n [] more [] ys e k = k
bad_then n [] more (x ∷ xs) ys e k = absurd (omega arith)
bad_then n (l ∷ ls) more [] ys e k = absurd (omega arith)
bad_then n (l ∷ ls) more (x ∷ xs) ys e k = bad_then n ls more xs ys (omega arith) k

-- == lines, and then others
wrote_then : (outcome : Result LinesEnd RunError) (rs qs : List Reply) (w v : List ℕ) → NoTrap rs × (w ≡ texts rs) → Wrote outcome qs v → Wrote outcome (rs ++ qs) (w ++ v)
wrote_then (Ok lines.Trapped) rs qs w v h k = (one_trap-append rs qs h.0 k.0, rw (h.1, k.1) (sym (texts-append rs qs)))
wrote_then (Err WriteFault) rs qs w v h k = cut_last-append rs qs w v h.0 h.1 k
wrote_then _ rs qs w v h k = (no_trap-append rs qs h.0 k.0, rw (h.1, k.1) (sym (texts-append rs qs)))

counted_then : (outcome : Result LinesEnd RunError) (old mid new : Writing) → SameCounts old mid → Counted outcome mid new → Counted outcome old new
counted_then (Err WriteFault) old mid new h k = rose_again h k
counted_then _ old mid new h k = same_again h k

module _ {contexts : List WasiSocketsCtx} {first mid : Machine} {line : ℕ} {xs : List Step} {rs : List Reply} {s t : Seen} where
  cause_then : (u : Seen) (state last : Machine) (ls more : List (List ℕ)) (outcome : Result LinesEnd RunError) (ys : List Step) (qs : List Reply) → length xs ≡ length ls → Stretch contexts first line xs rs mid s t → Cause contexts mid (line + length xs) more outcome ys qs state last t u → Cause contexts first line (ls ++ more) outcome (xs ++ ys) (rs ++ qs) state last s u
  cause_then u state last ls more (Ok lines.AllDone) ys qs e h k = record { count = omega (arith, length-append xs ys, length-append ls more, k.count); stands = k.stands; on = stretch_then h k.on }
  cause_then u state last ls more (Err (BadStep n)) ys qs e h k = (k.0 ∙ numbered line xs ys, bad_then (length contexts) ls more xs ys e k.1)
  cause_then u state last ls more _ ys qs e h k = k

-- a prefix of the run of all
began_then : {contexts : List WasiSocketsCtx} {first mid : Machine} {line : ℕ} {xs : List Step} {rs : List Reply} {s t u : Seen} (so_far : List Reply) (ys : List Step) → Stretch contexts first line xs rs mid s t → Started (run contexts (so_far ++ rs) mid (line + length xs) ys) t u → Started (run contexts so_far first line (xs ++ ys)) s u
began_then so_far ys h k = record { rest = k.rest; reached = reaches_then (h.reached so_far ys) k.reached }

sides_at : (seen : Seen) (a b : Machine) → a ≡ b → KnowsSides seen b.store → KnowsSides seen a.store
sides_at seen a b e h = let P : Machine → Type 0 = λ m. KnowsSides seen m.store in subst P (sym e) h

module _ {contexts : List WasiSocketsCtx} {w_old w_mid w_new : Seen} {k_old k_mid k_new : Writing} {first mid last : Machine} {line : ℕ} {ls more : List (List ℕ)} {outcome : Result LinesEnd RunError} where
  join : (h : LinesRan contexts w_old w_mid k_old k_mid first line ls (Ok lines.AllDone) mid) → LinesRan contexts w_mid w_new k_mid k_new h.state (line + length h.steps) more outcome last → LinesRan contexts w_old w_new k_old k_new first line (ls ++ more) outcome last
  join h k = record {
    steps = h.steps ++ k.steps;
    replies = h.replies ++ k.replies;
    state = k.state;
    seen = k.seen;
    met = k.met;
    written = h.written ++ k.written;
    first_lines = rw (append_assoc h.steps k.steps k.met) (start_then (length contexts) ls more h.steps (k.steps ++ k.met) (rw (h.beyond.0, append-nil h.steps) at h.first_lines) h.cause.count k.first_lines);
    ran = λ so_far. rw (← append_assoc so_far h.replies k.replies) (reaches_then (h.cause.on.reached so_far k.steps) (k.ran (so_far ++ h.replies)));
    answered = omega (arith, length-append h.replies k.replies, length-append h.steps k.steps, h.answered, k.answered);
    began = λ so_far. rw (append_assoc h.steps k.steps k.met) (began_then so_far (k.steps ++ k.met) h.cause.on (k.began (so_far ++ h.replies)));
    beyond = rw (← numbered line h.steps k.steps) k.beyond;
    took = took_again h.took k.took;
    wrote = wrote_then outcome h.replies k.replies h.written k.written h.wrote k.wrote;
    counted = counted_then outcome k_old k_mid k_new h.counted k.counted;
    cause = cause_then w_new k.state last ls more outcome k.steps k.replies h.cause.count h.cause.on k.cause;
    sides = λ held. k.sides (sides_at w_mid h.state mid h.cause.stands (h.sides held));
  }

  pub lines_then : LinesRan contexts w_old w_mid k_old k_mid first line ls (Ok lines.AllDone) mid → LinesRan contexts w_mid w_new k_mid k_new mid (line + length ls) more outcome last → LinesRan contexts w_old w_new k_old k_new first line (ls ++ more) outcome last
  lines_then h k = join h (rw (← h.cause.stands, ← h.cause.count) at k)

-- some line before a trap's is the trap's
trapped_some : {contexts : List WasiSocketsCtx} {w_old w_new : Seen} {k_old k_new : Writing} {first last : Machine} {line : ℕ} {ls : List (List ℕ)} → (h : LinesRan contexts w_old w_new k_old k_new first line ls (Ok lines.Trapped) last) → 0 < length h.steps
trapped_some h = omega (arith, h.answered, ap length h.wrote.0.all, length-append h.wrote.0.front (h.wrote.0.last ∷ []))

module _ {contexts : List WasiSocketsCtx} {w_old w_mid w_new : Seen} {k_old k_mid k_new : Writing} {first mid last : Machine} {line : ℕ} {ls more : List (List ℕ)} where
  join_more : (h : LinesRan contexts w_old w_mid k_old k_mid first line ls (Ok lines.AllDone) mid) (k : LinesRan contexts w_mid w_new k_mid k_new h.state (line + length h.steps) more (Ok lines.Trapped) last) → length ls < length (h.steps ++ k.steps)
  join_more h k = omega (arith, h.cause.count, length-append h.steps k.steps, trapped_some k)

  -- a trap after other lines: it is none of those
  pub trap_then : LinesRan contexts w_old w_mid k_old k_mid first line ls (Ok lines.AllDone) mid → LinesRan contexts w_mid w_new k_mid k_new mid (line + length ls) more (Ok lines.Trapped) last → (r : LinesRan contexts w_old w_new k_old k_new first line (ls ++ more) (Ok lines.Trapped) last) × (length ls < length r.steps)
  unfolding join
  trap_then h k = let q = rw (← h.cause.stands, ← h.cause.count) at k in (join h q, join_more h q)

-- the lines end before any is done, and nothing is written
module _ {contexts : List WasiSocketsCtx} {w_old w_new : Seen} {k : Writing} {first last : Machine} {line : ℕ} {all : List (List ℕ)} {outcome : Result LinesEnd RunError} where
  pub before_any : (met : List Step) → StartWith (length contexts) all met → ((so_far : List Reply) → Started (run contexts so_far first line met) w_old w_new) → Beyond contexts outcome first (line + 0) met w_old w_new → Wrote outcome [] [] → Counted outcome k k → Cause contexts first line all outcome [] [] first last w_old w_new
      → (KnowsSides w_old first.store → KnowsSides w_new last.store) → LinesRan contexts w_old w_new k k first line all outcome last
  before_any met spelled began beyond wrote counted cause sides = record {
    steps = [];
    replies = [];
    state = first;
    seen = w_old;
    met = met;
    written = [];
    first_lines = spelled;
    ran = λ so_far. rw append-nil (reaches_all (run contexts so_far first line []) w_old);
    answered = refl;
    began = began;
    beyond = beyond;
    took = took_none k;
    wrote = wrote;
    counted = counted;
    cause = cause;
    sides = sides;
  }

pub none_began : (contexts : List WasiSocketsCtx) (w : Seen) (first : Machine) (line : ℕ) (so_far : List Reply) → Started (run contexts so_far first line []) w w
none_began contexts w first line so_far = record { rest = Give (so_far, first); reached = reaches_all (run contexts so_far first line []) w }

-- no lines
pub lines_none : (contexts : List WasiSocketsCtx) (w : Seen) (k : Writing) (first : Machine) (line : ℕ) → LinesRan contexts w w k k first line [] (Ok lines.AllDone) first
lines_none contexts w k first line =
    before_any [] tt (none_began contexts w first line) (refl, refl) (tt, refl) (same_none k) (record { count = refl; stands = refl; on = stretch_none contexts first line w }) (λ held. held)

-- == more lines that weren't reached
-- the lines ended before the last
abbrev pub IsOver : Result LinesEnd RunError → Type 0
IsOver (Ok lines.AllDone) = ⊥
IsOver _ = Unit {0}

cause_ahead : (contexts : List WasiSocketsCtx) (first state last : Machine) (line : ℕ) (ls more : List (List ℕ)) (outcome : Result LinesEnd RunError) (xs : List Step) (rs : List Reply) (s t : Seen) → IsOver outcome → Cause contexts first line ls outcome xs rs state last s t → Cause contexts first line (ls ++ more) outcome xs rs state last s t
cause_ahead contexts first state last line ls more (Ok lines.AllDone) xs rs s t o k = absurd o
cause_ahead contexts first state last line ls more (Err (BadStep n)) xs rs s t o k = (k.0, bad_more (length contexts) ls more xs k.1)
cause_ahead contexts first state last line ls more _ xs rs s t o k = k

pub lines_ahead : {contexts : List WasiSocketsCtx} {w_old w_new : Seen} {k_old k_new : Writing} {first last : Machine} {line : ℕ} {ls : List (List ℕ)} {outcome : Result LinesEnd RunError} (more : List (List ℕ)) → IsOver outcome → LinesRan contexts w_old w_new k_old k_new first line ls outcome last → LinesRan contexts w_old w_new k_old k_new first line (ls ++ more) outcome last
lines_ahead {contexts} {w_old} {w_new} {first = first} {last} {line} {ls} {outcome} more o h = record {
  steps = h.steps;
  replies = h.replies;
  state = h.state;
  seen = h.seen;
  met = h.met;
  written = h.written;
  first_lines = start_more (length contexts) ls more (h.steps ++ h.met) h.first_lines;
  ran = h.ran;
  answered = h.answered;
  began = h.began;
  beyond = h.beyond;
  took = h.took;
  wrote = h.wrote;
  counted = h.counted;
  cause = cause_ahead contexts first h.state last line ls more outcome h.steps h.replies w_old w_new o h.cause;
  sides = h.sides;
}

-- the lines leave the world as open as it was
pub stays_open : {contexts : List WasiSocketsCtx} {w_old w_new : Seen} {k_old k_new : Writing} {first last : Machine} {line : ℕ} {ls : List (List ℕ)} {outcome : Result LinesEnd RunError} → LinesRan contexts w_old w_new k_old k_new first line ls outcome last → w_old.ended ≡ false → w_new.ended ≡ false
stays_open h e = (h.began []).reached.passed.ended ∙ e
