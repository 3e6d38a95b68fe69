-- How a transcript ends, once its lines are done.
use Rattle.std.proofs.Common.{◌≡◌, ◌∙◌, ap, refl, ℕ, List, [], ◌++◌, take, Result, Ok, Err, inl, inr}
use Rattle.wasi_world.specs.declared.outcome.WasiSocketsCtx.{WasiSocketsCtx}
use Rattle.world_io.specs.Io.{Reading, Writing}
use Rattle.wasi_world.specs.Seen.{Seen}
use Rattle.host_store.specs.declared.machine.Machine.{Machine}
use Rattle.wasi_records.specs.Closing.{AsksNothing, IsFresh, HasClosedAll}
use Rattle.host_store.specs.Machine.{first_state}
use Rattle.host_store.specs.KnownSides.{KnowsSides}
use Rattle.wasi_records.specs.Sides.{ClosesAll}
use Rattle.record_common.specs.Sides.{no_socket}
use Rattle.wasi_records.proofs.Closings.{empty_known}
use Rattle.wasi_run.specs.declared.run.RunEnd.{RunEnd}
use Rattle.wasi_run.specs.declared.run.RunEnd.TheVariants as end
use Rattle.wasi_run.specs.declared.error.RunError.{RunError}
use Rattle.wasi_run.specs.declared.error.RunError.TheVariants.{Memory, BadStep, TooLong, ReadFault, WriteFault}
use Rattle.world_io.specs.Written.{TookAll, TookPart}
use Rattle.world_io.proofs.Took.{took_again, same_again, rose_again}
use Rattle.wasi_transcript.specs.declared.show.Stop.{Stop}
use Rattle.wasi_transcript.specs.declared.show.Stop.TheVariants as stop
use Rattle.wasi_transcript.specs.Shown.{Done, Stops, Wrote, IsShown, outcome_of, ending_text}
use Rattle.wasi_transcript.specs.Showing.{LinesShown, IsHalt}

module _ {contexts : List WasiSocketsCtx} {limit : ℕ} {s_old s_new : Reading} {w_old w_mid w_new : Seen} where
  -- the end mark and the closings are in no log
  abbrev done_ended : Done contexts limit s_old s_new w_old w_mid → AsksNothing w_mid w_new → Done contexts limit s_old s_new w_old w_new
  done_ended d q = record {
    text = d.text;
    gave = d.gave;
    within = d.within;
    exchanges = d.exchanges;
    left = d.left;
    lines = d.lines;
    last = d.last;
    done = d.done;
    met = d.met;
    logged = record { log = q.log ∙ d.logged.log; plan = q.plan ∙ d.logged.plan };
  }

  stops_ended : (d : Done contexts limit s_old s_new w_old w_mid) (q : AsksNothing w_mid w_new) (line : List ℕ) (result : Result RunEnd RunError) → Stops contexts limit s_old s_new w_old w_mid d line result → Stops contexts limit s_old s_new w_old w_new (done_ended d q) line result
  stops_ended d q line (Ok end.AllRead) h = h
  stops_ended d q line (Ok end.Trapped) h = h
  stops_ended d q line (Err Memory) h = h
  stops_ended d q line (Err (BadStep n)) h = h
  stops_ended d q line (Err TooLong) h = h
  stops_ended d q line (Err ReadFault) h = h
  stops_ended d q line (Err WriteFault) h = h

module _ {contexts : List WasiSocketsCtx} {limit : ℕ} {s_old s_new : Reading} {w_old w_new : Seen} where
  -- a stop is between two lines
  met_nothing : (d : Done contexts limit s_old s_new w_old w_new) (line : List ℕ) (s : Stop) → Stops contexts limit s_old s_new w_old w_new d line (outcome_of s) → d.met ≡ []
  met_nothing d line stop.AllRead h = h.5
  met_nothing d line stop.Trapped h = h.1
  met_nothing d line (stop.BadStep n) h = h.3
  met_nothing d line stop.TooLong h = h.3
  met_nothing d line stop.ReadFault h = h.2

module _ {contexts : List WasiSocketsCtx} {limit : ℕ} {s_old s_new : Reading} {k_old k_mid : Writing} {w_old w_mid : Seen} {last : Machine} {line : List ℕ} where
  -- what was written of the lines where they stopped
  wrote_lines : (s : Stop) (h : LinesShown contexts limit s_old s_new k_old k_mid w_old w_mid last line (outcome_of s)) → Wrote h.done.exchanges line 0 h.written k_old k_mid (Err Memory)
  wrote_lines stop.AllRead h = h.wrote
  wrote_lines stop.Trapped h = h.wrote
  wrote_lines (stop.BadStep n) h = h.wrote
  wrote_lines stop.TooLong h = h.wrote
  wrote_lines stop.ReadFault h = h.wrote

module _ {contexts : List WasiSocketsCtx} {limit : ℕ} {s_old s_new : Reading} {k_old k_mid : Writing} {w_old w_mid w_new : Seen} {last : Machine} {line : List ℕ} where
  -- the lines ended where memory ran out or a write failed
  pub shown_halted : (e : RunError) → IsHalt e → LinesShown contexts limit s_old s_new k_old k_mid w_old w_mid last line (Err e) → AsksNothing w_mid w_new → IsShown contexts limit s_old s_new k_old k_mid w_old w_new (Err e)
  shown_halted Memory halts h q = record { done = done_ended h.done q; line = line; stops = h.stops; written = h.written; took = h.took; wrote = h.wrote }
  shown_halted WriteFault halts h q = record { done = done_ended h.done q; line = line; stops = h.stops; written = h.written; took = h.took; wrote = (inl h.wrote.0, h.wrote.1) }
  shown_halted (BadStep n) halts h q = absurd halts
  shown_halted TooLong halts h q = absurd halts
  shown_halted ReadFault halts h q = absurd halts

  -- memory ran out before the last lines were written
  pub shown_starved : (s : Stop) → LinesShown contexts limit s_old s_new k_old k_mid w_old w_mid last line (outcome_of s) → AsksNothing w_mid w_new → IsShown contexts limit s_old s_new k_old k_mid w_old w_new (Err Memory)
  shown_starved s h q = record { done = done_ended h.done q; line = line; stops = inl (met_nothing h.done line s h.stops); written = h.written; took = h.took; wrote = wrote_lines s h }

  -- all sockets are closed at the end
  pub closed_all : {result : Result RunEnd RunError} → LinesShown contexts limit s_old s_new k_old k_mid w_old w_mid last line result → (KnowsSides w_mid last.store → ClosesAll w_mid w_new) → IsFresh w_old → HasClosedAll w_new
  closed_all h closes fresh =
      let known : KnowsSides w_old first_state.store = record { count = empty_known w_old.log no_socket fresh.log refl } in
      record { count = (closes (h.sides known)).count (h.closings ∙ fresh.closings) }

module _ {contexts : List WasiSocketsCtx} {limit : ℕ} {s_old s_new : Reading} {k_old k_mid k_new : Writing} {w_old w_mid : Seen} {last : Machine} {line : List ℕ} where
  wrote_ending : (closings : ℕ) (s : Stop) (h : LinesShown contexts limit s_old s_new k_old k_mid w_old w_mid last line (outcome_of s)) → TookAll k_mid (ending_text s line closings) k_new → Wrote h.done.exchanges line closings (h.written ++ ending_text s line closings) k_old k_new (outcome_of s)
  wrote_ending closings stop.AllRead h a = (ap (λ t. t ++ ending_text stop.AllRead line closings) h.wrote.0, same_again h.wrote.1 a.counts)
  wrote_ending closings stop.Trapped h a = (ap (λ t. t ++ ending_text stop.Trapped line closings) h.wrote.0, same_again h.wrote.1 a.counts)
  wrote_ending closings (stop.BadStep n) h a = (ap (λ t. t ++ ending_text (stop.BadStep n) line closings) h.wrote.0, same_again h.wrote.1 a.counts)
  wrote_ending closings stop.TooLong h a = (ap (λ t. t ++ ending_text stop.TooLong line closings) h.wrote.0, same_again h.wrote.1 a.counts)
  wrote_ending closings stop.ReadFault h a = (ap (λ t. t ++ ending_text stop.ReadFault line closings) h.wrote.0, same_again h.wrote.1 a.counts)

module _ {contexts : List WasiSocketsCtx} {limit : ℕ} {s_old s_new : Reading} {k_old k_mid k_new : Writing} {w_old w_mid w_new : Seen} {last : Machine} {line : List ℕ} where
  -- the last lines were cut
  pub shown_cut : (s : Stop) → LinesShown contexts limit s_old s_new k_old k_mid w_old w_mid last line (outcome_of s) → AsksNothing w_mid w_new → TookPart k_mid (ending_text s line w_new.closings) k_new → IsShown contexts limit s_old s_new k_old k_new w_old w_new (Err WriteFault)
  shown_cut s h q f =
      let wrote = wrote_lines s h in record {
        done = done_ended h.done q;
        line = line;
        stops = met_nothing h.done line s h.stops;
        written = h.written ++ take f.cut (ending_text s line w_new.closings);
        took = took_again h.took f.took;
        wrote = (inr (record { stop = s; cut = f.cut; short = f.short; is = ap (λ t. t ++ take f.cut (ending_text s line w_new.closings)) wrote.0 }), rose_again wrote.1 f.counts);
      }

  -- the whole transcript was written
  pub shown_whole : (s : Stop) → LinesShown contexts limit s_old s_new k_old k_mid w_old w_mid last line (outcome_of s) → AsksNothing w_mid w_new → TookAll k_mid (ending_text s line w_new.closings) k_new → IsShown contexts limit s_old s_new k_old k_new w_old w_new (outcome_of s)
  shown_whole s h q a = record {
    done = done_ended h.done q;
    line = line;
    stops = stops_ended h.done q line (outcome_of s) h.stops;
    written = h.written ++ ending_text s line w_new.closings;
    took = took_again h.took a.took;
    wrote = wrote_ending w_new.closings s h a;
  }
