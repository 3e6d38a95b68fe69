-- The text of a log: a line `context T U K L` for each context, a line `STEP PART CALL = ANSWER` for each entry, and the line `end`.
use Rattle.std.specs.Prelude.{◌≡◌, ℕ, ◌+◌, ◌==◌, ◌&&◌, ◌≤◌, nat_le, Bool, true, false, if◌then◌else◌, List, [], ◌∷◌, ◌++◌, bytes_eq, length, take, map, flat_map, codes, decimal, Option, Some, None, option_map, Result, Ok, Err}
use Rattle.std.specs.List.{AllByRecursion}
use Rattle.wasi_world.specs.Contexts.{AreNumbered}
use Rattle.wasi_world.specs.declared.call.Entry.{Entry}
use Rattle.wasi_world.specs.declared.outcome.WasiSocketsCtx.{WasiSocketsCtx}
use Rattle.world_scripted.specs.Scenario.{yes_or_no_at}
use Rattle.world_text.specs.Fields.{Reader, Row, row, after_word, ◌>>=◌, give, give_some, whole, fields_of, line_with, word_at, number_at}
use Rattle.world_text.specs.Lines.{lines_of, rest_of}
use Rattle.wasi_replay.specs.Arguments.{sock_at, sock_fields, FitsSock}
use Rattle.wasi_replay.specs.Calls.{call_at, call_fields, FitsCall, told_at, told_fields, FitsTold}
use Rattle.wasi_replay.specs.Recorded.{fits_entry, FitsEntry}
use Rattle.wasi_replay.specs.declared.line.Line.{Line}
use Rattle.wasi_replay.specs.declared.line.Line.TheVariants as line

-- == the line of an entry
abbrev pub equals_word : List (Row (Unit {0}))
equals_word = row (codes "=") (give tt) ∷ []

unfoldable pub equals_at : Reader (Unit {0})
equals_at = do
  word ← word_at
  after_word equals_word word

-- an answer fits its call
abbrev pub if_fits : Entry → Option Entry
if_fits e = if fits_entry e then Some e else None

unfoldable pub entry_at : Reader Entry
entry_at = do
  op ← sock_at
  call ← call_at
  equals ← equals_at
  told ← told_at
  give_some (if_fits (record { op = op; call = call; answer = told }))

-- the entry that a line is, without its newline
unfoldable pub entry_in : List ℕ → Option Entry
entry_in text = whole (entry_at (fields_of text))

abbrev pub entry_fields : Entry → List (List ℕ)
entry_fields e = sock_fields e.op ++ (call_fields e.call ++ codes "=" ∷ told_fields e.answer)

abbrev pub entry_line : Entry → List ℕ
entry_line e = line_with (entry_fields e)

-- Its numbers are within their widths, and its answer fits its call.
pub record IsEntry (e : Entry) : Type 0 where
  pub op : FitsSock e.op
  pub call : FitsCall e.call
  pub answer : FitsTold e.answer
  pub fitting : FitsEntry e

-- == the line of a context: whether TCP, UDP and name lookup are allowed, and its limit, which is always written
unfoldable pub allowed_at : ℕ → Reader WasiSocketsCtx
allowed_at number = do
  tcp ← yes_or_no_at
  udp ← yes_or_no_at
  lookup ← yes_or_no_at
  limit ← number_at 18446744073709551615
  give (record { name = number; ip_name_lookup = lookup; udp = udp; tcp = tcp; write_limit = limit })

abbrev pub context_word : ℕ → List (Row WasiSocketsCtx)
context_word number = row (codes "context") (allowed_at number) ∷ []

unfoldable pub context_at : ℕ → Reader WasiSocketsCtx
context_at number = do
  word ← word_at
  after_word (context_word number) word

-- the context that a line gives, with this number
unfoldable pub context_in : ℕ → List ℕ → Option WasiSocketsCtx
context_in number line = whole (context_at number (fields_of line))

abbrev pub allowed_text : Bool → List ℕ
allowed_text true = codes "yes"
allowed_text false = codes "no"

abbrev pub context_fields : WasiSocketsCtx → List (List ℕ)
context_fields context = codes "context" ∷ allowed_text context.tcp ∷ allowed_text context.udp ∷ allowed_text context.ip_name_lookup ∷ decimal context.write_limit ∷ []

-- its limit has 64 bits
abbrev pub HasLimit : WasiSocketsCtx → Type 0
HasLimit context = context.write_limit ≤ 18446744073709551615

abbrev pub context_line : WasiSocketsCtx → List ℕ
context_line context = line_with (context_fields context)

-- == a line
abbrev pub line_or : Option WasiSocketsCtx → Option Entry → Option Line
line_or (Some context) entry = Some (line.Context context)
line_or None entry = option_map line.Entry entry

-- what a line is, where so many contexts came before it
unfoldable pub line_in : ℕ → List ℕ → Option Line
line_in contexts text = if bytes_eq text (codes "end") then Some line.End else line_or (context_in contexts text) (entry_in text)

abbrev pub line_text : Line → List ℕ
line_text (line.Context context) = context_line context
line_text (line.Entry e) = entry_line e
line_text line.End = codes "end"

-- == all lines
-- What the lines before a place say: contexts, then entries, and whether `end` came.
pub record SoFar : Type 0 where
  pub contexts : List WasiSocketsCtx
  pub entries : List Entry
  pub ended : Bool

abbrev pub so_far : List WasiSocketsCtx → List Entry → Bool → SoFar
so_far contexts entries ended = record { contexts = contexts; entries = entries; ended = ended }

abbrev pub start : SoFar
start = so_far [] [] false

-- one line more: contexts stand before entries, there is one at least, and nothing stands after `end`
abbrev pub add_line : SoFar → Line → Option SoFar
add_line log (line.Context context) = if length log.entries == 0 then Some (record log { contexts = log.contexts ++ context ∷ [] }) else None
add_line log (line.Entry e) = if length log.contexts == 0 then None else Some (record log { entries = log.entries ++ e ∷ [] })
add_line log line.End = if length log.contexts == 0 then None else Some (record log { ended = true })

abbrev pub add_read : SoFar → Option Line → Option SoFar
add_read log None = None
add_read log (Some l) = add_line log l

abbrev pub with_line : SoFar → List ℕ → Option SoFar
with_line log text = if log.ended then None else add_read log (line_in (length log.contexts) text)

-- what the lines say after those before them, where the first of them has this number; or the number of the first that is wrong
abbrev pub next_lines : ℕ → Option SoFar → (SoFar → Result SoFar ℕ) → Result SoFar ℕ
next_lines number None more = Err number
next_lines number (Some log) more = more log

abbrev pub with_lines : ℕ → SoFar → List (List ℕ) → Result SoFar ℕ
with_lines number log [] = Ok log
with_lines number log (text ∷ lines) = next_lines number (with_line log text) (λ next. with_lines (number + 1) next lines)

-- nothing follows the last newline of a text, and it has at most so many bytes
abbrev pub is_whole : ℕ → List ℕ → Bool
is_whole most text = (length (rest_of (take most text)) == 0) && nat_le (length text) most

-- what so many lines say, if they are the whole text and the last is `end`; else the number of the line after them
abbrev pub if_whole : Bool → ℕ → Result SoFar ℕ → Result (List WasiSocketsCtx × List Entry) ℕ
if_whole whole lines (Err number) = Err number
if_whole whole lines (Ok log) = if whole && log.ended then Ok (log.contexts, log.entries) else Err (lines + 1)

-- the contexts and the entries of a text of at most so many bytes, or the number of its first line that is wrong
unfoldable pub log_within : ℕ → List ℕ → Result (List WasiSocketsCtx × List Entry) ℕ
log_within most text =
    let lines = lines_of (take most text) in
    if_whole (is_whole most text) (length lines) (with_lines 1 start lines)

-- The contexts and the entries of a text, or the number of its first line that is wrong. It has at most 4,294,967,294 bytes, and
-- each line has its newline.
abbrev pub log_of : List ℕ → Result (List WasiSocketsCtx × List Entry) ℕ
log_of text = log_within 4294967294 text

-- == the text
abbrev pub log_lines : List WasiSocketsCtx → List Entry → List (List ℕ)
log_lines contexts log = map context_line contexts ++ (map entry_line log ++ codes "end" ∷ [])

abbrev pub text_of_lines : List (List ℕ) → List ℕ
text_of_lines lines = flat_map (λ text. text ++ 10 ∷ []) lines

abbrev pub log_text : List WasiSocketsCtx → List Entry → List ℕ
log_text contexts log = text_of_lines (log_lines contexts log)

-- There is a context, each is named by its place and has a limit of 64 bits, and each entry has its numbers within their widths and an answer that fits.
pub record IsLog (contexts : List WasiSocketsCtx) (log : List Entry) : Type 0 where
  pub some : contexts ≡ [] → ⊥
  pub numbered : AreNumbered contexts
  pub limits : AllByRecursion HasLimit contexts
  pub entries : AllByRecursion IsEntry log
