-- What a scenario plans, and its contexts: a line for each answer, with the word of its kind and the fields of the answer, and
-- a line for each context.
use Rattle.std.specs.Prelude.{ℕ, ◌+◌, ◌==◌, ◌&&◌, nat_le, Bool, true, false, if◌then◌else◌, List, [], ◌∷◌, ◌++◌, length, take, codes, Option, Some, None, option_map, Result, Ok, Err}
use Rattle.wasi_world.specs.declared.outcome.WasiSocketsCtx.{WasiSocketsCtx}
use Rattle.world_scripted.specs.declared.scenario.ScenarioError.{ScenarioError}
use Rattle.world_scripted.specs.declared.scenario.ScenarioError.TheVariants.{BadScenario, Memory}
use Rattle.wasi_world.specs.declared.plan.Kind.{Kind}
use Rattle.wasi_world.specs.declared.plan.Kind.TheVariants as kind
use Rattle.wasi_world.specs.declared.plan.Planned.{Planned}
use Rattle.wasi_world.specs.declared.plan.Planned.TheVariants.{Pending, Done, Yes, No, Code, Addr, Arrived, Bytes, Took, Datagram, Value, Names}
use Rattle.wasi_world.specs.Seen.{Plan}
use Rattle.world_text.specs.Fields.{Reader, Row, row, after_word, ◌>>=◌, give, give_some, named, whole, fields_of, word_at, number_at, address_at, code_at, bytes_at, names_at}
use Rattle.world_text.specs.Lines.{lines_of, rest_of}
use Rattle.wasi_world.specs.Kinds.{takes}
use Rattle.world_scripted.specs.Queued.{no_answers, with_answer}
use Rattle.wasi_world.specs.Contexts.{free_context, no_write_limit}

-- the word of a kind: its name, in lower case and with dashes
abbrev pub kind_text : Kind → List ℕ
kind_text kind.Check = codes "check"
kind_text kind.Lookup = codes "lookup"
kind_text kind.TcpCreate = codes "tcp-create"
kind_text kind.UdpCreate = codes "udp-create"
kind_text kind.UdpWritable = codes "udp-writable"
kind_text kind.Local = codes "local"
kind_text kind.Peer = codes "peer"
kind_text kind.Bind = codes "bind"
kind_text kind.Listen = codes "listen"
kind_text kind.SetBacklog = codes "set-backlog"
kind_text kind.UdpBind = codes "udp-bind"
kind_text kind.UdpConnect = codes "udp-connect"
kind_text kind.UdpDisconnect = codes "udp-disconnect"
kind_text kind.SetOption = codes "set-option"
kind_text kind.Connect = codes "connect"
kind_text kind.Send = codes "send"
kind_text kind.Accept = codes "accept"
kind_text kind.Read = codes "read"
kind_text kind.ReadReady = codes "read-ready"
kind_text kind.Write = codes "write"
kind_text kind.WriteReady = codes "write-ready"
kind_text kind.Recv = codes "recv"
kind_text kind.GetOption = codes "get-option"

-- all kinds
abbrev pub kinds : List Kind
kinds =
    kind.Check
    ∷ kind.Lookup
    ∷ kind.TcpCreate
    ∷ kind.UdpCreate
    ∷ kind.UdpWritable
    ∷ kind.Local
    ∷ kind.Peer
    ∷ kind.Bind
    ∷ kind.Listen
    ∷ kind.SetBacklog
    ∷ kind.UdpBind
    ∷ kind.UdpConnect
    ∷ kind.UdpDisconnect
    ∷ kind.SetOption
    ∷ kind.Connect
    ∷ kind.Send
    ∷ kind.Accept
    ∷ kind.Read
    ∷ kind.ReadReady
    ∷ kind.Write
    ∷ kind.WriteReady
    ∷ kind.Recv
    ∷ kind.GetOption
    ∷ []

-- the kind whose word this is
unfoldable pub kind_in : List ℕ → Option Kind
kind_in word = named kind_text kinds word

unfoldable pub kind_at : Reader Kind
kind_at = do
  word ← word_at
  give_some (kind_in word)

-- the words of the answers that hold bytes or names, and what follows them
abbrev pub long_answers : List (Row Planned)
long_answers =
    row (codes "bytes") (bytes_at >>= λ bytes. give (Bytes bytes))
    ∷ row (codes "datagram") (address_at >>= λ addr. bytes_at >>= λ bytes. give (Datagram bytes addr))
    ∷ row (codes "names") (names_at >>= λ names. give (Names names))
    ∷ []

-- the words of the other answers
abbrev pub short_answers : List (Row Planned)
short_answers =
    row (codes "pending") (give Pending)
    ∷ row (codes "done") (give Done)
    ∷ row (codes "yes") (give Yes)
    ∷ row (codes "no") (give No)
    ∷ row (codes "code") (code_at >>= λ code. give (Code code))
    ∷ row (codes "addr") (address_at >>= λ addr. give (Addr addr))
    ∷ row (codes "arrived") (address_at >>= λ addr. give (Arrived addr))
    ∷ row (codes "took") (number_at 18446744073709551615 >>= λ count. give (Took count))
    ∷ row (codes "value") (number_at 18446744073709551615 >>= λ value. give (Value value))
    ∷ []

unfoldable pub answer_at : Reader Planned
answer_at = do
  word ← word_at
  after_word (long_answers ++ short_answers) word

-- a kind, and an answer that its list may hold
unfoldable pub planned_at : Reader (Kind × Planned)
planned_at = do
  k ← kind_at
  answer ← answer_at
  give_some (if takes k answer then Some (k, answer) else None)

-- what a line plans, without its newline
unfoldable pub planned_in : List ℕ → Option (Kind × Planned)
planned_in line = whole (planned_at (fields_of line))

abbrev pub yes_or_no : List (Row Bool)
yes_or_no = row (codes "yes") (give true) ∷ row (codes "no") (give false) ∷ []

unfoldable pub yes_or_no_at : Reader Bool
yes_or_no_at = do
  word ← word_at
  after_word yes_or_no word

-- the limit on unwritten bytes, if one is written
unfoldable pub limit_at : Reader ℕ
limit_at [] = Some (no_write_limit, [])
limit_at (field ∷ fields) = number_at 18446744073709551615 (field ∷ fields)

-- a context with this number: whether TCP, UDP and name lookup are allowed, and its limit
unfoldable pub allowed_at : ℕ → Reader WasiSocketsCtx
allowed_at number = do
  tcp ← yes_or_no_at
  udp ← yes_or_no_at
  lookup ← yes_or_no_at
  limit ← limit_at
  give (record { name = number; ip_name_lookup = lookup; udp = udp; tcp = tcp; write_limit = limit })

-- the word of a context's line, and what follows it
abbrev pub context_word : ℕ → List (Row WasiSocketsCtx)
context_word number = row (codes "context") (allowed_at number) ∷ []

unfoldable pub context_at : ℕ → Reader WasiSocketsCtx
context_at number = do
  word ← word_at
  after_word (context_word number) word

-- the context that a line gives, with this number
unfoldable pub context_in : ℕ → List ℕ → Option WasiSocketsCtx
context_in number line = whole (context_at number (fields_of line))

-- What lines give: the plan, and the contexts.
pub record Setup : Type 0 where
  pub plan : Plan
  pub contexts : List WasiSocketsCtx

abbrev pub setup : Plan → List WasiSocketsCtx → Setup
setup plan contexts = record { plan = plan; contexts = contexts }

-- what no line gives
abbrev pub no_setup : Setup
no_setup = setup no_answers []

-- what lines give with one that gives this context, or else this answer
abbrev pub with_given : Setup → Option WasiSocketsCtx → Option (Kind × Planned) → Option Setup
with_given old (Some context) planned = Some (setup old.plan (old.contexts ++ context ∷ []))
with_given old None planned = option_map (λ planned. setup (with_answer old.plan planned.0 planned.1) old.contexts) planned

-- what lines give with one more; a context's number is how many there were before
abbrev pub with_line : Setup → List ℕ → Option Setup
with_line old line = with_given old (context_in (length old.contexts) line) (planned_in line)

-- what lines give with these more, the first of which has this number; or the number of the first that isn't in the grammar
abbrev pub next_lines : ℕ → Option Setup → (Setup → Result Setup ℕ) → Result Setup ℕ
next_lines number None more = Err number
next_lines number (Some next) more = more next

abbrev pub with_lines : ℕ → Setup → List (List ℕ) → Result Setup ℕ
with_lines number old [] = Ok old
with_lines number old (line ∷ lines) = next_lines number (with_line old line) (λ next. with_lines (number + 1) next lines)

-- nothing follows the last newline of a text, and it has at most so many bytes
abbrev pub is_whole : ℕ → List ℕ → Bool
is_whole most text = (length (rest_of (take most text)) == 0) && nat_le (length text) most

-- what so many lines give, if they are the whole text; else the number of the line after them
abbrev pub if_whole : Bool → ℕ → Result Setup ℕ → Result Setup ℕ
if_whole whole lines (Err number) = Err number
if_whole whole lines (Ok given) = if whole then Ok given else Err (lines + 1)

-- what the lines of a text of at most so many bytes give, or the number of the first that isn't in the grammar
unfoldable pub setup_within : ℕ → List ℕ → Result Setup ℕ
setup_within most text =
    let lines = lines_of (take most text) in
    if_whole (is_whole most text) (length lines) (with_lines 1 no_setup lines)

-- the contexts of a scenario whose lines give these
abbrev pub or_free : List WasiSocketsCtx → List WasiSocketsCtx
or_free [] = free_context ∷ []
or_free (context ∷ contexts) = context ∷ contexts

abbrev pub planned_with : Result Setup ℕ → Result (Plan × List WasiSocketsCtx) ℕ
planned_with (Ok given) = Ok (given.plan, or_free given.contexts)
planned_with (Err number) = Err number

-- What a scenario plans and its contexts, or the number of its first line that isn't in the grammar. It has at most 1,048,576
-- bytes.
abbrev pub scenario_of : List ℕ → Result (Plan × List WasiSocketsCtx) ℕ
scenario_of text = planned_with (setup_within 1048576 text)

-- the line that an error names
abbrev pub bad_line : ScenarioError → Option ℕ
bad_line (BadScenario number) = Some number
bad_line (Memory e) = None
