-- The faults of the system by their numbers, and what each is told as.
use Rattle.std.specs.Prelude.{◌==◌, ◌||◌, ℕ, Bool, if◌then◌else◌}
use Rattle.wasi_addr.specs.declared.code.ErrorCode.{ErrorCode}
use Rattle.wasi_addr.specs.declared.code.ErrorCode.TheVariants as code
use Rattle.wasi_world.specs.declared.call.Told.{Told}
use Rattle.wasi_world.specs.declared.call.Told.TheVariants.{Pending, Code}
use Rattle.wasi_net.specs.declared.errno.Errno.{Errno}

-- EHOSTUNREACH, EHOSTDOWN, ENETDOWN, ENETUNREACH, ENONET
abbrev pub is_unreachable : ℕ → Bool
is_unreachable n = n == 113 || (n == 112 || (n == 100 || (n == 101 || n == 64)))

-- EOPNOTSUPP, ENOPROTOOPT, EPFNOSUPPORT, EPROTONOSUPPORT, EPROTOTYPE, ESOCKTNOSUPPORT, EAFNOSUPPORT
abbrev pub is_unsupported : ℕ → Bool
is_unsupported n = n == 95 || (n == 92 || (n == 96 || (n == 93 || (n == 91 || (n == 94 || n == 97)))))

-- the code of each number: EPERM and EACCES, EADDRINUSE, EADDRNOTAVAIL, ETIMEDOUT, EPIPE, ECONNREFUSED, ECONNRESET,
-- ECONNABORTED, EINVAL, those that can't be reached, EISCONN and ENOTCONN and EDESTADDRREQ, EMSGSIZE, ENOMEM and ENOBUFS, and
-- those that aren't supported
abbrev pub code_of_number : ℕ → ErrorCode
code_of_number n =
    if n == 1 || n == 13 then code.AccessDenied
    else (if n == 98 then code.AddressInUse
    else (if n == 99 then code.AddressNotBindable
    else (if n == 110 then code.Timeout
    else (if n == 32 then code.ConnectionBroken
    else (if n == 111 then code.ConnectionRefused
    else (if n == 104 then code.ConnectionReset
    else (if n == 103 then code.ConnectionAborted
    else (if n == 22 then code.InvalidArgument
    else (if is_unreachable n then code.RemoteUnreachable
    else (if n == 106 || (n == 107 || n == 89) then code.InvalidState
    else (if n == 90 then code.DatagramTooLarge
    else (if n == 12 || n == 105 then code.OutOfMemory
    else (if is_unsupported n then code.NotSupported
    else code.Other)))))))))))))

-- the code that each call reports, but for those below
abbrev pub code_of : Errno → ErrorCode
code_of e = code_of_number e.number

-- EAGAIN, EINTR: the call may be made again
abbrev pub may_retry : Errno → Bool
may_retry e = e.number == 11 || e.number == 4

-- EINPROGRESS, EINTR: a connect goes on
abbrev pub goes_on : Errno → Bool
goes_on e = e.number == 115 || e.number == 4

-- an address of another family is an invalid argument of a bind and of a UDP connect
abbrev pub bind_code : Errno → ErrorCode
bind_code e = if e.number == 97 then code.InvalidArgument else code_of e

-- ECONNRESET, ENETRESET, EPROTO, ENOPROTOOPT, EOPNOTSUPP and what can't be reached: Linux reports at an accept what befell
-- the connection that arrived
abbrev pub is_pending_error : ℕ → Bool
is_pending_error n = n == 104 || (n == 102 || (n == 71 || (n == 92 || (n == 95 || is_unreachable n))))

abbrev pub accept_code : Errno → ErrorCode
accept_code e = if is_pending_error e.number then code.ConnectionAborted else code_of e

-- what a call reports that failed with a code: pending where it may be made again
abbrev pub told_failed : Errno → ErrorCode → Told
told_failed e c = if may_retry e then Pending else Code c
