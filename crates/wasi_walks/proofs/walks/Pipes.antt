-- Inputs and outputs of no connection, as moves: they are made, read, written and dropped, and nothing is asked of the network.
use Rattle.std.specs.Prelude.{◌≡◌, ℕ, length, List, [], ◌∷◌, ◌++◌, Bool, if◌then◌else◌, Option, Some, None, is_some, Result, Ok, Err}
use Rattle.memory_streams.specs.Plain.{Contents, no_contents, pipe_read, pipe_write}
use Rattle.wasi_walks.proofs.Words.{Allows, Full, Give, HandleTable, Kind, Machine, Step, Stop, Trap, WasiSocketsCtx, ap, ask_made, bind, is_full, make_asks, name_of, own_of, refl, subst, with_handle}
use Rattle.wasi_walks.proofs.Lists.{get_seam}
use Rattle.host_streams.specs.PlainStreams.{read_plain, read_pipe_at, write_plain, write_pipe_at, piped, input_pipe_asks, output_pipe_asks, plain_asks, drop_input_pipe_at, drop_output_pipe_at, with_record_more, drop_plain_input, drop_plain_output}
use Rattle.wasi_records.specs.Records.{input_pipe_at, input_pipe_of, output_pipe_at, output_pipe_of}
use Rattle.host_streams.specs.StreamCalls.{plain_done}
use Rattle.host_store.specs.declared.kind.Kind.TheVariants.{PlainInput, PlainOutput}
use Rattle.host_store.specs.declared.kind.PlainInput.{PlainInput as InputOf}
use Rattle.host_store.specs.declared.kind.PlainInput.TheVariants as input
use Rattle.host_store.specs.declared.kind.PlainOutput.{PlainOutput as OutputOf}
use Rattle.host_store.specs.declared.kind.PlainOutput.TheVariants as output
use Rattle.wasi_records.specs.declared.records.Record.{Record}
use Rattle.wasi_records.specs.declared.records.Record.TheVariants.{InputPipe, OutputPipe}
use Rattle.wasi_walks.proofs.PipeLists.{IsPipe, input_pipe_same, output_pipe_same, pipe_push}
use Rattle.wasi_walks.proofs.walks.Moves.{APlain, Emptied, Finds, GivesBack, WhenIdle, Here, IsNumbered, Leaves, MakesPlain, Numbered, Numbers, OfInput, OfOutput, Past, Spends, Unused, with_records}
use Rattle.wasi_walks.proofs.walks.Law.{Law, Walks, and_then, by_if, give, gives, mark, move}
use Rattle.wasi_walks.proofs.walks.States.{Numbering, Over, OverWith, Starts}

-- the machine is so
abbrev pub Left : {A : Type 0} → Here → A × Machine → Here
Left h done = record h { machine = done.1 }

-- and the line is over
abbrev pub LeftPast : {A : Type 0} → Here → A × Machine → Here
LeftPast h done = record (Left h done) { at = None; made = Past }

-- a pipe that has its handle has its record
abbrev HandledSo : Machine → Record → Result ℕ Stop × HandleTable → Here
HandledSo m r (Ok handle, t) = record (Over (record { table = t; store = with_record_more m.store r })) { made = Numbered (length m.store.records) m.table.next }
HandledSo m r (Err why, t) = Over (record m { table = t })

module _ {contexts : List WasiSocketsCtx} {line : ℕ} {origin : Step} {law : Law contexts line origin} where
  -- == what is done to a pipe leaves the sockets
  module _ {h : Here} where
    read_pipe_walks : (place len : ℕ) (o : Option (List ℕ)) → input_pipe_at h.machine.store.records place ≡ o → Walks law h (Left h) (Give (plain_done h.machine (read_pipe_at h.machine.store place len o)))
    read_pipe_walks place len None e = give _
    read_pipe_walks place len (Some bytes) e = gives _ (Finds _ _ (input_pipe_same h.machine.store.records place bytes (pipe_read len bytes).1 e))

    pub read_plain_walks : (len : ℕ) (plain : InputOf) → Walks law h (Left h) (Give (plain_done h.machine (read_plain h.machine.store plain len)))
    read_plain_walks len (input.Pipe place) = read_pipe_walks place len (input_pipe_at h.machine.store.records place) refl
    read_plain_walks len input.Closed = give _

    write_pipe_walks : (place : ℕ) (bytes : List ℕ) (o : Option Contents) → output_pipe_at h.machine.store.records place ≡ o → Walks law h (Left h) (Give (plain_done h.machine (write_pipe_at h.machine.store place bytes o)))
    write_pipe_walks place bytes None e = give _
    write_pipe_walks place bytes (Some pipe) e = gives _ (Finds _ _ (output_pipe_same h.machine.store.records place pipe (pipe_write pipe bytes).1 e))

    pub write_plain_walks : (bytes : List ℕ) (plain : OutputOf) → Walks law h (Left h) (Give (plain_done h.machine (write_plain h.machine.store plain bytes)))
    write_plain_walks bytes (output.Pipe place) = write_pipe_walks place bytes (output_pipe_at h.machine.store.records place) refl
    write_plain_walks bytes output.Sink = give _
    write_plain_walks bytes output.Closed = give _

    -- == one is dropped
    drop_input_pipe_walks : {A : Type 0} (answer : A) (place : ℕ) (o : Option (List ℕ)) → input_pipe_at h.machine.store.records place ≡ o → h.made ≡ Emptied (PlainInput (input.Pipe place)) → h.machine.store.standing ≡ None → Walks law h (LeftPast h) (Give (answer, record h.machine { store = drop_input_pipe_at h.machine.store place o }))
    drop_input_pipe_walks answer place None e gone idle = gives _ (Leaves _)
    drop_input_pipe_walks answer place (Some bytes) e gone idle = move (GivesBack _ place (WhenIdle idle) (OfInput bytes gone e)) (gives _ (Leaves _))

    drop_output_pipe_walks : {A : Type 0} (answer : A) (place : ℕ) (o : Option Contents) → output_pipe_at h.machine.store.records place ≡ o → h.made ≡ Emptied (PlainOutput (output.Pipe place)) → h.machine.store.standing ≡ None → Walks law h (LeftPast h) (Give (answer, record h.machine { store = drop_output_pipe_at h.machine.store place o }))
    drop_output_pipe_walks answer place None e gone idle = gives _ (Leaves _)
    drop_output_pipe_walks answer place (Some pipe) e gone idle = move (GivesBack _ place (WhenIdle idle) (OfOutput pipe gone e)) (gives _ (Leaves _))

    pub drop_input_walks : {A : Type 0} (answer : A) (plain : InputOf) → h.made ≡ Emptied (PlainInput plain) → h.machine.store.standing ≡ None → Walks law h (LeftPast h) (Give (answer, record h.machine { store = drop_plain_input h.machine.store plain }))
    drop_input_walks answer (input.Pipe place) gone idle = drop_input_pipe_walks answer place (input_pipe_at h.machine.store.records place) refl gone idle
    drop_input_walks answer input.Closed gone idle = gives _ (Leaves _)

    pub drop_output_walks : {A : Type 0} (answer : A) (plain : OutputOf) → h.made ≡ Emptied (PlainOutput plain) → h.machine.store.standing ≡ None → Walks law h (LeftPast h) (Give (answer, record h.machine { store = drop_plain_output h.machine.store plain }))
    drop_output_walks answer (output.Pipe place) gone idle = drop_output_pipe_walks answer place (output_pipe_at h.machine.store.records place) refl gone idle
    drop_output_walks answer output.Sink gone idle = gives _ (Leaves _)
    drop_output_walks answer output.Closed gone idle = gives _ (Leaves _)

  -- == they are made
  -- where there is room for its handle, the record of a pipe is there before it
  handled_walks : (m : Machine) (kind : Kind) (r : Record) → IsPipe r → MakesPlain origin kind → IsNumbered (with_records (Numbering m) (m.store.records ++ r ∷ [])) kind → Walks law (Over m) (HandledSo m r) (make_asks m.table (own_of line) kind None None)
  unfolding bind
  handled_walks m kind r p makes numbered =
      let now : Here = with_records (Numbering m) (m.store.records ++ r ∷ []) in
      let w = move {law = law} (Numbers (Over m)) (move (Finds (Numbering m) _ (pipe_push m.store.records r p)) (mark (APlain kind makes numbered))) in
      by_if (is_full m.table) (λ full. give _) (λ room. record { along = λ es i. subst (λ (full : Bool). Allows {A = Result ℕ Stop × HandleTable} law.P (λ fs made. law.Inv fs (record now { machine = record now.machine { table = made.1 } })) es (if full then Give (Err (Trap Full), m.table) else bind (ask_made (own_of line) m.table.next (name_of kind) None None) (λ done. Give (Ok m.table.next, with_handle m.table kind None)))) room (w.along es i) })

  piped_walks : (m : Machine) (r : Record) (made : Result ℕ Stop × HandleTable) → Walks law (HandledSo m r made) OverWith (Give (piped m r made))
  piped_walks m r (Ok handle, t) = gives _ (Leaves _)
  piped_walks m r (Err why, t) = give _

  pub input_pipe_walks : (m : Machine) (bytes : List ℕ) → MakesPlain origin (PlainInput (input.Pipe (length m.store.records))) → Walks law (Starts m Unused) OverWith (input_pipe_asks m (own_of line) bytes)
  input_pipe_walks m bytes makes = move (Spends _ refl) (and_then (handled_walks m _ (InputPipe bytes) tt makes (refl, ap (λ o. is_some (input_pipe_of o)) (get_seam m.store.records (InputPipe bytes)))) (piped_walks m (InputPipe bytes)))

  pub output_pipe_walks : (m : Machine) (capacity : ℕ) → MakesPlain origin (PlainOutput (output.Pipe (length m.store.records))) → Walks law (Starts m Unused) OverWith (output_pipe_asks m (own_of line) capacity)
  output_pipe_walks m capacity makes =
      let r : Record = OutputPipe (no_contents capacity) in move (Spends _ refl) (and_then (handled_walks m _ r tt makes (refl, ap (λ o. is_some (output_pipe_of o)) (get_seam m.store.records r))) (piped_walks m r))

  -- one that has no record
  pub plain_walks : (m : Machine) (kind : Kind) → MakesPlain origin kind → IsNumbered (Over m) kind → Walks law (Starts m Unused) OverWith (plain_asks m (own_of line) kind)
  plain_walks m kind makes none = move (Spends _ refl) (and_then (mark (APlain kind makes none)) (λ made. give _))
