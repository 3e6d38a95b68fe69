-- How gets and sets of options and of the backlog are answered: where each answer comes from, and what is left afterwards.
use Rattle.std.specs.Prelude.{◌≡◌, ℕ, ◌<◌, ◌≤◌, true, false, List, [], ◌∷◌, Ok}
use Rattle.wasi_addr.specs.declared.code.ErrorCode.{ErrorCode}
use Rattle.wasi_addr.specs.declared.code.ErrorCode.TheVariants.{InvalidArgument, InvalidState, NotSupported}
use Rattle.wasi_addr.specs.Clamp.{clamped_backlog}
use Rattle.wasi_world.specs.declared.ids.OpId.{OpId}
use Rattle.wasi_world.specs.declared.call.Call.TheVariants as call
use Rattle.wasi_world.specs.declared.call.Entry.{Entry}
use Rattle.wasi_world.specs.declared.call.Opt.{Opt}
use Rattle.wasi_world.specs.declared.call.Told.TheVariants as told
use Rattle.wasi_world.specs.Operation.{Operation}
use Rattle.wasi_tcp.specs.declared.socket.Connection.{Connection}
use Rattle.wasi_tcp.specs.declared.socket.TcpState.TheVariants as state
use Rattle.socket_common.specs.Options.{largest_value, zero_test, value_set, value_told, refused_before, refused_after}
use Rattle.wasi_tcp.specs.Options.{option_side, with_backlog}
use Rattle.host_store.specs.declared.machine.Machine.{Machine}
use Rattle.tcp_records.specs.declared.socket.TcpRecord.{TcpRecord}
use Rattle.tcp_records.specs.Sockets.{with_inner}
use Rattle.wasi_steps.specs.declared.reply.CodeWord.{CodeWord}
use Rattle.wasi_steps.specs.declared.reply.Field.{Field}
use Rattle.wasi_steps.specs.declared.setting.TcpSetting.{TcpSetting}
use Rattle.wasi_walks.specs.Answered.{putting, word_of_code, RefusedOf}
use Rattle.wasi_walks.specs.Licence.{entry}
use Rattle.wasi_causes.specs.Refusals.{OfTcp3, SaidBy, p3_word}
use Rattle.wasi_steps.specs.Reply.{number_fields}
use Rattle.wasi_steps.specs.Settings.{Chosen, AnOption, TheBacklog, chosen}

-- == refusals
-- A get is refused: the socket connects, or is closed with a code, and nothing is asked; or its network socket returned a code;
-- or its network socket returned a value that is too large for the option.
pub data GetRefusal (own : OpId) (option : Opt) (r : TcpRecord) : List Entry → ErrorCode → Type 0 where
  GetConnects : (op : Operation) → r.inner.state ≡ state.Connecting op → GetRefusal own option r [] InvalidState
  GetClosed : (c : ErrorCode) → r.inner.state ≡ state.Closed c → GetRefusal own option r [] c
  GetTold : (side : OpId) (c : ErrorCode) → option_side r.inner ≡ Ok side → GetRefusal own option r (entry own (call.GetOption side option) (told.Code c) ∷ []) c
  ToldTooLarge : (side : OpId) (value : ℕ) → option_side r.inner ≡ Ok side → largest_value option < value_told option value
      → GetRefusal own option r (entry own (call.GetOption side option) (told.Value value) ∷ []) NotSupported

-- A set is refused: 0 is no value of the option, which is tested before the state; or the socket connects, or is closed with a
-- code; or it has a network socket that may be asked, and 0 is no value of the option; or, the value being one, its network
-- socket returned a code. Only then is anything asked.
pub data SetRefusal (own : OpId) (option : Opt) (value : ℕ) (r : TcpRecord) : List Entry → ErrorCode → Type 0 where
  ZeroBefore : refused_before (zero_test option) value ≡ true → SetRefusal own option value r [] InvalidArgument
  SetConnects : (op : Operation) → refused_before (zero_test option) value ≡ false → r.inner.state ≡ state.Connecting op → SetRefusal own option value r [] InvalidState
  SetClosed : (c : ErrorCode) → refused_before (zero_test option) value ≡ false → r.inner.state ≡ state.Closed c → SetRefusal own option value r [] c
  ZeroAfter : (side : OpId) → refused_before (zero_test option) value ≡ false → option_side r.inner ≡ Ok side → refused_after (zero_test option) value ≡ true
      → SetRefusal own option value r [] InvalidArgument
  SetTold : (side : OpId) (c : ErrorCode) → refused_before (zero_test option) value ≡ false → option_side r.inner ≡ Ok side → refused_after (zero_test option) value ≡ false
      → SetRefusal own option value r (entry own (call.SetOption side option (value_set option value)) (told.Code c) ∷ []) c

-- A set of the backlog is refused: it is 0, in any state; or the socket connects, or is connected, or is closed with a code; or
-- the network socket that listens returned a code, whichever.
pub data BacklogRefusal (own : OpId) (value : ℕ) (r : TcpRecord) : List Entry → ErrorCode → Type 0 where
  ZeroBacklog : value ≡ 0 → BacklogRefusal own value r [] InvalidArgument
  StillConnects : (op : Operation) → 0 < value → r.inner.state ≡ state.Connecting op → BacklogRefusal own value r [] InvalidState
  IsConnected : (connection : Connection) → 0 < value → r.inner.state ≡ state.Connected connection → BacklogRefusal own value r [] InvalidState
  WasClosed : (c : ErrorCode) → 0 < value → r.inner.state ≡ state.Closed c → BacklogRefusal own value r [] c
  BacklogTold : (side : OpId) (c : ErrorCode) → 0 < value → r.inner.state ≡ state.Listening side
      → BacklogRefusal own value r (entry own (call.SetBacklog side (clamped_backlog value)) (told.Code c) ∷ []) NotSupported

-- the record's call is refused so, and the machine stays as it was
abbrev pub RefusedHere : (ErrorCode → CodeWord) → Machine → (TcpRecord → List Entry → ErrorCode → Type 0) → TcpRecord → List Entry → CodeWord → Machine → Type 0
RefusedHere word m Cause r entries reply after = SaidBy word (Cause r entries) reply × (after ≡ m)

-- the get of an option of the handle's socket was refused
abbrev pub RefusedGet : Machine → OpId → ℕ → Opt → List Entry → CodeWord → Machine → Type 0
RefusedGet m own handle option = RefusedOf m handle (λ place. RefusedHere word_of_code m (GetRefusal own option))

-- that of a 0.3 socket
abbrev pub P3RefusedGet : Machine → OpId → ℕ → Opt → List Entry → CodeWord → Machine → Type 0
P3RefusedGet m own handle option entries reply after = OfTcp3 m handle (λ place r. RefusedHere p3_word m (GetRefusal own option) r entries reply after)

-- why the set of what was chosen is refused
abbrev pub ChosenRefusal : OpId → Chosen → TcpRecord → List Entry → ErrorCode → Type 0
ChosenRefusal own (AnOption option value) = SetRefusal own option value
ChosenRefusal own (TheBacklog value) = BacklogRefusal own value

-- the setting of the handle's socket was refused
abbrev pub RefusedSet : Machine → OpId → ℕ → TcpSetting → List Entry → CodeWord → Machine → Type 0
RefusedSet m own handle setting = RefusedOf m handle (λ place. RefusedHere word_of_code m (ChosenRefusal own (chosen setting)))

-- that of a 0.3 socket
abbrev pub P3RefusedSet : Machine → OpId → ℕ → TcpSetting → List Entry → CodeWord → Machine → Type 0
P3RefusedSet m own handle setting entries reply after = OfTcp3 m handle (λ place r. RefusedHere p3_word m (ChosenRefusal own (chosen setting)) r entries reply after)

-- == what is got and set
-- The one thing asked was the option of the socket's network socket, and the fields are the number that it was answered, as the
-- option reads it, which isn't too large.
pub record GetsOption (own : OpId) (option : Opt) (r : TcpRecord) (fields : List Field) (entries : List Entry) : Type 0 where
  pub side : OpId
  pub value : ℕ
  pub has : option_side r.inner ≡ Ok side
  pub asked : entries ≡ entry own (call.GetOption side option) (told.Value value) ∷ []
  pub within : value_told option value ≤ largest_value option
  pub gives : fields ≡ number_fields (value_told option value)

-- The value wasn't refused, and the one thing asked was to set the option of the socket's network socket to it, brought into
-- its range, and that was answered done.
pub record SetsOption (own : OpId) (option : Opt) (value : ℕ) (r : TcpRecord) (entries : List Entry) : Type 0 where
  pub side : OpId
  pub has : option_side r.inner ≡ Ok side
  pub before : refused_before (zero_test option) value ≡ false
  pub after : refused_after (zero_test option) value ≡ false
  pub asked : entries ≡ entry own (call.SetOption side option (value_set option value)) told.Done ∷ []

-- The backlog is kept for a listen to come, and nothing was asked; or the network socket that listens was asked to take it, and
-- that was answered done.
pub data SetsBacklog (own : OpId) (value : ℕ) (r : TcpRecord) : List Entry → Type 0 where
  KeptForListen : (side : OpId) → r.inner.state ≡ state.Default side → SetsBacklog own value r []
  ToldListener : (side : OpId) → r.inner.state ≡ state.Listening side → SetsBacklog own value r (entry own (call.SetBacklog side (clamped_backlog value)) told.Done ∷ [])

-- the machine, where the socket has the backlog, brought into its range
abbrev pub keeping_backlog : Machine → ℕ → TcpRecord → ℕ → Machine
keeping_backlog m place r value = putting m place (with_inner r (with_backlog r.inner (clamped_backlog value)))

-- what was chosen is set: an option, and the machine stays; or a backlog other than 0, and the socket keeps it
abbrev pub SetsChosen : Machine → OpId → Chosen → ℕ → TcpRecord → List Entry → Machine → Type 0
SetsChosen m own (AnOption option value) place r entries after = SetsOption own option value r entries × (after ≡ m)
SetsChosen m own (TheBacklog value) place r entries after = (0 < value) × SetsBacklog own value r entries × (after ≡ keeping_backlog m place r value)
