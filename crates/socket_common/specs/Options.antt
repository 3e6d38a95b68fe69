-- The options of a socket's network socket: one table, and what each call on a network socket asks and answers.
use Rattle.std.specs.Prelude.{ℕ, ◌==◌, nat_le, Bool, false, if◌then◌else◌, Result, Ok, Err}
use Rattle.std.specs.Int.{from_bool}
use Rattle.wasi_addr.specs.declared.code.ErrorCode.{ErrorCode}
use Rattle.wasi_addr.specs.declared.code.ErrorCode.TheVariants.{InvalidArgument, NotSupported}
use Rattle.wasi_addr.specs.Clamp.{clamped_keep_alive_time, clamped_keep_alive_count, clamped_buffer_size, halved_buffer_size}
use Rattle.wasi_world.specs.declared.ids.OpId.{OpId}
use Rattle.wasi_world.specs.declared.call.Opt.{Opt}
use Rattle.wasi_world.specs.declared.call.Opt.TheVariants as opt
use Rattle.wasi_world.specs.Asks.{Asks, Give, bind}
use Rattle.wasi_world.specs.Typed.{ask_get_option, ask_set_option}
use Rattle.socket_common.specs.declared.setting.Setting.{Setting}
use Rattle.socket_common.specs.declared.setting.Setting.TheVariants as setting

-- == the table: each option has its row in each of these
-- the largest value: a truth value is 0 or 1, a count has 32 bits, a hop limit 8, a time and a size 64
abbrev pub largest_value : Opt → ℕ
largest_value opt.KeepAliveEnabled = 1
largest_value opt.KeepAliveIdleTime = 18446744073709551615
largest_value opt.KeepAliveInterval = 18446744073709551615
largest_value opt.KeepAliveCount = 4294967295
largest_value opt.HopLimit = 255
largest_value opt.ReceiveBufferSize = 18446744073709551615
largest_value opt.SendBufferSize = 18446744073709551615

-- when a set of 0 is refused: never, before the socket's state is looked at, or where the state allows a set
pub data ZeroTest : Type 0 where
  Never : ZeroTest
  BeforeState : ZeroTest
  AfterState : ZeroTest

abbrev pub zero_test : Opt → ZeroTest
zero_test opt.KeepAliveEnabled = Never
zero_test opt.KeepAliveIdleTime = BeforeState
zero_test opt.KeepAliveInterval = BeforeState
zero_test opt.KeepAliveCount = BeforeState
zero_test opt.HopLimit = AfterState
zero_test opt.ReceiveBufferSize = AfterState
zero_test opt.SendBufferSize = AfterState

-- the value that is set for one that is given
abbrev pub value_set : Opt → ℕ → ℕ
value_set opt.KeepAliveEnabled value = value
value_set opt.KeepAliveIdleTime value = clamped_keep_alive_time value
value_set opt.KeepAliveInterval value = clamped_keep_alive_time value
value_set opt.KeepAliveCount value = clamped_keep_alive_count value
value_set opt.HopLimit value = value
value_set opt.ReceiveBufferSize value = clamped_buffer_size value
value_set opt.SendBufferSize value = clamped_buffer_size value

-- the value that is answered for one that is reported
abbrev pub value_told : Opt → ℕ → ℕ
value_told opt.KeepAliveEnabled told = if told == 0 then 0 else 1
value_told opt.KeepAliveIdleTime told = told
value_told opt.KeepAliveInterval told = told
value_told opt.KeepAliveCount told = told
value_told opt.HopLimit told = told
value_told opt.ReceiveBufferSize told = halved_buffer_size told
value_told opt.SendBufferSize told = halved_buffer_size told

-- == a setting: which option it sets, and its value as a number; yes is 1
abbrev pub option_of : Setting → Opt
option_of (setting.KeepAliveEnabled b) = opt.KeepAliveEnabled
option_of (setting.KeepAliveIdleTime n) = opt.KeepAliveIdleTime
option_of (setting.KeepAliveInterval n) = opt.KeepAliveInterval
option_of (setting.KeepAliveCount n) = opt.KeepAliveCount
option_of (setting.HopLimit n) = opt.HopLimit
option_of (setting.ReceiveBufferSize n) = opt.ReceiveBufferSize
option_of (setting.SendBufferSize n) = opt.SendBufferSize

abbrev pub number_of : Setting → ℕ
number_of (setting.KeepAliveEnabled b) = from_bool b
number_of (setting.KeepAliveIdleTime n) = n
number_of (setting.KeepAliveInterval n) = n
number_of (setting.KeepAliveCount n) = n
number_of (setting.HopLimit n) = n
number_of (setting.ReceiveBufferSize n) = n
number_of (setting.SendBufferSize n) = n

-- == what calls ask, the same for each option
-- the value is refused before the state is looked at
abbrev pub refused_before : ZeroTest → ℕ → Bool
refused_before Never value = false
refused_before BeforeState value = value == 0
refused_before AfterState value = false

-- the value is refused where the state allows a set
abbrev pub refused_after : ZeroTest → ℕ → Bool
refused_after Never value = false
refused_after BeforeState value = false
refused_after AfterState value = value == 0

-- a value that is too large for its option isn't answered
abbrev pub option_within : Opt → ℕ → Result ℕ ErrorCode
option_within option value = if nat_le value (largest_value option) then Ok value else Err NotSupported

abbrev pub option_answer : Opt → Result ℕ ErrorCode → Result ℕ ErrorCode
option_answer option (Ok told) = option_within option (value_told option told)
option_answer option (Err c) = Err c

-- an option of a network socket
abbrev pub get_of_side_asks : OpId → OpId → Opt → Asks (Result ℕ ErrorCode)
get_of_side_asks op side option = bind (ask_get_option op side option) (λ told. Give (option_answer option told))

-- the option is set on a network socket
abbrev pub set_of_side_asks : OpId → OpId → Opt → ℕ → Asks (Result (Unit {0}) ErrorCode)
set_of_side_asks op side option value =
    if refused_after (zero_test option) value then Give (Err InvalidArgument)
    else ask_set_option op side option (value_set option value)
