-- Each reply with fields of some kinds is read back from its text, so no two of them have one text.
use Rattle.std.proofs.Common.{◌≡◌, ℕ, zero, suc, ◌==◌, ◌<◌, ◌^◌, false, if◌then◌else◌, List, [], ◌∷◌, ◌++◌, map, flat_map, length, codes, decimal, Option, Some, None, Contains, IsTrue, append-nil, ap, sym, ◌∙◌, refl, arith, inl, inr}
use Rattle.std.specs.List.{list_all, AllByRecursion}
use Rattle.std.proofs.lemmas.List.{append_cancel_right, map-append}
use Rattle.wasi_addr.specs.declared.address.IpAddress.{IpAddress}
use Rattle.wasi_addr.specs.declared.address.IpAddress.TheVariants as ip
use Rattle.wasi_world.specs.declared.datagram.IncomingDatagram.{IncomingDatagram}
use Rattle.wasi_world.specs.declared.outcome.TrapKind.{TrapKind}
use Rattle.wasi_world.specs.declared.outcome.TrapKind.TheVariants as trap
use Rattle.world_text.specs.Fields.{Reader, ◌>>=◌, Row, row, read_then, give, give_some, after_word, named, field_at, word_at, number_at, bytes_at, ip_at, address_at, line_with, fields_of}
use Rattle.world_text.specs.Written.{AreVisible, is_visible, ip_numbers, address_numbers, ip_fields, address_fields, bytes_fields, FitsIp}
use Rattle.world_text.proofs.Exactly.{All, all_give, all_some, all_then, all_both, all_end, all_last, same_found, field_exactly, number_exactly}
use Rattle.world_text.proofs.ReadBack.{named_passes, u32_exactly, word_exactly, bytes_exactly, ip_exactly, address_exactly}
use Rattle.world_text.proofs.Visible.{visible_utf8, number_visible, bytes_visible, address_visible, fields_of_line}
use Rattle.wasi_steps.specs.declared.reply.CodeWord.{CodeWord}
use Rattle.wasi_steps.specs.declared.reply.CodeWord.TheVariants as word
use Rattle.wasi_steps.specs.declared.reply.Field.{Field}
use Rattle.wasi_steps.specs.declared.reply.Field.TheVariants as field
use Rattle.wasi_steps.specs.declared.reply.Reply.{Reply}
use Rattle.wasi_steps.specs.declared.reply.Reply.TheVariants as reply
use Rattle.wasi_steps.specs.declared.guest_call.GuestCall.{GuestCall}
use Rattle.wasi_steps.specs.declared.guest_call.GuestCall.TheVariants as guest
use Rattle.wasi_steps.specs.declared.guest_call.TcpCall.TheVariants as tcp_call
use Rattle.wasi_steps.specs.declared.guest_call.UdpCall.TheVariants as udp_call
use Rattle.wasi_steps.specs.declared.guest_call.NameCall.TheVariants as name_call
use Rattle.wasi_steps.specs.declared.guest_call.StreamCall.TheVariants as stream_call
use Rattle.wasi_steps.specs.declared.guest_call.PipeCall.TheVariants as pipe_call
use Rattle.wasi_steps.specs.declared.guest_call.PollableCall.TheVariants as pollable_call
use Rattle.wasi_steps.specs.declared.guest_call.P3TcpCall.TheVariants as p3_tcp_call
use Rattle.wasi_steps.specs.declared.guest_call.P3UdpCall.TheVariants as p3_udp_call
use Rattle.wasi_steps.specs.declared.guest_call.P3NameCall.TheVariants as p3_name_call
use Rattle.wasi_steps.specs.declared.step.Step.{Step}
use Rattle.wasi_steps.specs.declared.step.Step.TheVariants as step
use Rattle.wasi_steps.specs.Reply.{ip_values, address_values, ips_values, received_values, datagram_values, numbers_fields}
use Rattle.wasi_steps.specs.Replies.{code_text, trap_text, field_text, fields_of_reply, text_of, FieldKind, ANumber, SomeBytes, Truth, Nothing, FieldKinds, Each, AnAddress, AnIpOrNone, ADatagramList, SomeNumbers, SomeIps, OneDatagram, OfAPolledCall, kinds_of, IsOfKind, EachOfKind, AreOfKinds, AreNumbers, AreIps, FitsReceived, GivesAs, Gives, is_poll, polled_fields}
use Rattle.wasi_steps.specs.Steps.{call_signature}
use Rattle.wasi_steps.proofs.LineEnds.{both_visible}

code_words : List CodeWord
code_words =
    word.Unknown ∷ word.AccessDenied ∷ word.NotSupported ∷ word.InvalidArgument ∷ word.OutOfMemory ∷ word.Timeout ∷ word.ConcurrencyConflict
    ∷ word.NotInProgress ∷ word.WouldBlock ∷ word.InvalidState ∷ word.NewSocketLimit ∷ word.AddressNotBindable ∷ word.AddressInUse
    ∷ word.RemoteUnreachable ∷ word.ConnectionRefused ∷ word.ConnectionBroken ∷ word.ConnectionReset ∷ word.ConnectionAborted
    ∷ word.DatagramTooLarge ∷ word.NameUnresolvable ∷ word.TemporaryResolverFailure ∷ word.PermanentResolverFailure ∷ word.Other ∷ []

code_at : Reader CodeWord
code_at = field_at >>= λ f. give_some (named code_text code_words f)

code_back : (code : CodeWord) → named code_text code_words (code_text code) ≡ Some code
unfolding code_words
code_back word.Unknown = refl
code_back _ = refl

traps : List TrapKind
traps =
    trap.NoSuchHandle ∷ trap.HasChildren ∷ trap.Full ∷ trap.EmptyList ∷ trap.NotPermitted ∷ trap.Capacity ∷ trap.TooLong ∷ trap.StreamsAlive
    ∷ trap.Budget ∷ trap.FlushPending ∷ []

trap_at : Reader TrapKind
trap_at = field_at >>= λ f. give_some (named trap_text traps f)

trap_back : (kind : TrapKind) → named trap_text traps (trap_text kind) ≡ Some kind
unfolding traps
trap_back trap.NoSuchHandle = refl
trap_back _ = refl

-- a field of a kind
abbrev of_kind : FieldKind → Reader Field
of_kind ANumber = number_at 18446744073709551615 >>= λ n. give (field.Number n)
of_kind SomeBytes = bytes_at >>= λ bytes. give (field.Bytes bytes)
of_kind Truth = word_at >>= after_word (row (codes "true") (give field.True) ∷ row (codes "false") (give field.False) ∷ [])
of_kind Nothing = word_at >>= after_word (row (codes "none") (give field.Absent) ∷ [])

each_of_kind : List FieldKind → Reader (List Field)
each_of_kind [] = give []
each_of_kind (kind ∷ kinds) = of_kind kind >>= λ f. each_of_kind kinds >>= λ fields. give (f ∷ fields)

-- a datagram that was received, and so many of them
received_at : Reader IncomingDatagram
received_at = address_at >>= λ a. bytes_at >>= λ bytes. give (record { bytes = bytes; remote_address = a })

times_at : ℕ → Reader (List IncomingDatagram)
times_at zero = give []
times_at (suc n) = received_at >>= λ d. times_at n >>= λ ds. give (d ∷ ds)

-- `none` where that is the one field beside the word of a reply, else an address with no port
ip_or_none : ℕ → Reader (List Field)
ip_or_none n = if n == 2 then each_of_kind (Nothing ∷ []) else (ip_at >>= λ a. give (ip_values a))

-- numbers up to the end of a reply that has so many fields, with its word
so_many_numbers : ℕ → List FieldKind
so_many_numbers zero = []
so_many_numbers (suc n) = ANumber ∷ so_many_numbers n

some_numbers : ℕ → Reader (List Field)
some_numbers zero = give_some None
some_numbers (suc n) = each_of_kind (so_many_numbers n)

-- the fields of a reply that has so many, with its word; none where it isn't known which call was polled
abbrev of_kinds : FieldKinds → ℕ → Reader (List Field)
of_kinds (Each kinds) n = each_of_kind kinds
of_kinds AnAddress n = address_at >>= λ a. give (address_values a)
of_kinds AnIpOrNone n = ip_or_none n
of_kinds ADatagramList n = number_at 18446744073709551615 >>= λ count. times_at count >>= λ ds. give (datagram_values ds)
of_kinds SomeNumbers n = some_numbers n
of_kinds SomeIps n = some_numbers n
of_kinds OneDatagram n = received_at >>= λ d. give (received_values d)
of_kinds OfAPolledCall n = give_some None

rows : FieldKinds → ℕ → List (Row Reply)
rows kinds n =
    row (codes "ok") (of_kinds kinds n >>= λ fields. give (reply.Ok fields))
    ∷ row (codes "err") (code_at >>= λ code. give (reply.Err code))
    ∷ row (codes "closed") (give reply.Closed)
    ∷ row (codes "failed") (code_at >>= λ code. number_at 4294967295 >>= λ handle. give (reply.Failed code handle))
    ∷ row (codes "trap") (trap_at >>= λ kind. give (reply.Trap kind))
    ∷ row (codes "pending") (number_at 4294967295 >>= λ n. give (reply.Pending n))
    ∷ row (codes "busy") (give reply.Busy)
    ∷ row (codes "no-such-call") (give reply.NoSuchCall)
    ∷ row (codes "cancelled") (give reply.Cancelled)
    ∷ row (codes "dropped") (give reply.Dropped)
    ∷ row (codes "unfilled") (give reply.Unfilled)
    ∷ []

-- what reads a reply of so many fields, which are of these kinds
reply_at : FieldKinds → ℕ → Reader Reply
reply_at kinds n = word_at >>= after_word (rows kinds n)

-- the reply that these fields are
abbrev reply_in : FieldKinds → Reader Reply
reply_in kinds fields = reply_at kinds (length fields) fields

all_of_kind : (kind : FieldKind) (f : Field) → IsOfKind kind f → All (of_kind kind) f (field_text f ∷ [])
all_of_kind ANumber (field.Number n) is = all_last _ (number_exactly 18446744073709551615 (omega arith)) (omega arith) all_give
all_of_kind SomeBytes (field.Bytes bytes) is = all_last _ bytes_exactly is all_give
all_of_kind Truth field.True is = all_last _ word_exactly (visible_utf8 (codes "true") refl) all_give
all_of_kind Truth field.False is = all_last _ word_exactly (visible_utf8 (codes "false") refl) all_give
all_of_kind Nothing field.Absent is = all_last _ word_exactly (visible_utf8 (codes "none") refl) all_give
all_of_kind _ _ is = absurd is

all_each : (kinds : List FieldKind) (fields : List Field) → EachOfKind kinds fields → All (each_of_kind kinds) fields (map field_text fields)
unfolding each_of_kind
all_each [] [] are = all_give
all_each (kind ∷ kinds) (f ∷ fields) are =
    all_both _ (all_of_kind kind f are.0) (all_end _ (all_each kinds fields are.1) all_give)
all_each [] (f ∷ fields) are = absurd are
all_each (kind ∷ kinds) [] are = absurd are

-- numbers are written in decimal
number_texts : (ns : List ℕ) → map field_text (map field.Number ns) ≡ map decimal ns
number_texts [] = refl
number_texts (n ∷ ns) = ap (λ texts. decimal n ∷ texts) (number_texts ns)

-- an address has more fields than `none`
all_ip : (a : IpAddress) → FitsIp a → All (ip_or_none (suc (length (ip_fields a)))) (ip_values a) (ip_fields a)
unfolding ip_or_none
all_ip (ip.Ipv4 a) fits = all_last _ {value = ip.Ipv4 a} ip_exactly fits all_give
all_ip (ip.Ipv6 a) fits = all_last _ {value = ip.Ipv6 a} ip_exactly fits all_give

all_ip_or_none : (fields : List Field) → AreOfKinds AnIpOrNone fields → All (ip_or_none (suc (length (map field_text fields)))) fields (map field_text fields)
unfolding ip_or_none
all_ip_or_none fields (inl none) = rw none (all_each (Nothing ∷ []) (field.Absent ∷ []) (tt, tt))
all_ip_or_none fields (inr are) = rw (are.numbers, number_texts (ip_numbers are.address)) (all_ip are.address are.fits)

-- the texts of a datagram are those of its address, and then its bytes
received_texts : (d : IncomingDatagram) → map field_text (received_values d) ≡ address_fields d.remote_address ++ bytes_fields d.bytes
received_texts d =
    map-append field_text (address_values d.remote_address) (field.Bytes d.bytes ∷ [])
    ∙ ap (λ texts. texts ++ bytes_fields d.bytes) (number_texts (address_numbers d.remote_address))

all_received : (d : IncomingDatagram) → FitsReceived d → All received_at d (map field_text (received_values d))
unfolding received_at
all_received d fits = rw (received_texts d) (all_then _ address_exactly fits.0 (all_last _ bytes_exactly fits.1 all_give))

all_times : (ds : List IncomingDatagram) → AllByRecursion FitsReceived ds → All (times_at (length ds)) ds (map field_text (flat_map received_values ds))
unfolding times_at
all_times [] fits = all_give
all_times (d ∷ ds) fits =
    rw (map-append field_text (received_values d) (flat_map received_values ds)) (all_both _ (all_received d fits.0) (all_end _ (all_times ds fits.1) all_give))

-- each of some numbers is one
each_number : (ns : List ℕ) → AllByRecursion (λ n. n < 2 ^ 64) ns → EachOfKind (so_many_numbers (length (map field_text (numbers_fields ns)))) (numbers_fields ns)
unfolding so_many_numbers
each_number [] fits = tt
each_number (n ∷ ns) fits = (fits.0, each_number ns fits.1)

are_numbers : (fields : List Field) → AreNumbers fields → EachOfKind (so_many_numbers (length (map field_text fields))) fields
are_numbers fields are = rw are.values (each_number (are.first ∷ are.others) are.fits)

all_numbers : (fields : List Field) → AreNumbers fields → All (some_numbers (suc (length (map field_text fields)))) fields (map field_text fields)
unfolding some_numbers
all_numbers fields are = all_each (so_many_numbers (length (map field_text fields))) fields (are_numbers fields are)

-- the addresses of a lookup are numbers too
each_ip : (ips : List IpAddress) → AllByRecursion FitsIp ips → EachOfKind (so_many_numbers (length (map field_text (ips_values ips)))) (ips_values ips)
unfolding so_many_numbers
each_ip [] fits = tt
each_ip (ip.Ipv4 a ∷ ips) fits = let more = each_ip ips fits.1 in search (arith, more)
each_ip (ip.Ipv6 a ∷ ips) fits = let more = each_ip ips fits.1 in search (arith, more)

are_ips : (fields : List Field) → AreIps fields → EachOfKind (so_many_numbers (length (map field_text fields))) fields
are_ips fields are = rw are.numbers (each_ip are.addresses are.fits)

all_ips : (fields : List Field) → AreIps fields → All (some_numbers (suc (length (map field_text fields)))) fields (map field_text fields)
unfolding some_numbers
all_ips fields are = all_each (so_many_numbers (length (map field_text fields))) fields (are_ips fields are)

-- it is known which kinds the fields are of
abbrev AreKnown : FieldKinds → Type 0
AreKnown OfAPolledCall = ⊥
AreKnown _ = Unit {0}

call_known : (call : GuestCall) → AreKnown (call_signature call).gives
call_known (guest.Tcp (tcp_call.Create _)) = tt
call_known (guest.Udp (udp_call.Create _)) = tt
call_known (guest.Names name_call.Network) = tt
call_known (guest.Stream (stream_call.Flush _)) = tt
call_known (guest.Pipe pipe_call.Sink) = tt
call_known (guest.Pollable (pollable_call.Ready _)) = tt
call_known (guest.P3Tcp (p3_tcp_call.Create _)) = tt
call_known (guest.P3Udp (p3_udp_call.Create _)) = tt
call_known (guest.P3Names (p3_name_call.Resolve _)) = tt
call_known _ = tt

are_known : (s : Step) → is_poll s ≡ false → AreKnown (kinds_of s)
are_known (step.Call c call) other = call_known call
are_known (step.Poll line) other = absurd (cc)
are_known _ other = tt

all_of_kinds : (kinds : FieldKinds) (fields : List Field) → AreKnown kinds → AreOfKinds kinds fields → All (of_kinds kinds (suc (length (map field_text fields)))) fields (map field_text fields)
all_of_kinds (Each kinds) fields known are = all_each kinds fields are
all_of_kinds AnAddress fields known are =
    rw (are.numbers, number_texts (address_numbers are.address)) (all_last _ address_exactly are.fits all_give)
all_of_kinds AnIpOrNone fields known are = all_ip_or_none fields are
all_of_kinds ADatagramList fields known are =
    rw are.values (all_then _ (number_exactly 18446744073709551615 (omega arith)) (let count = are.count in omega arith) (all_end _ (all_times are.datagrams are.fits) all_give))
all_of_kinds SomeNumbers fields known are = all_numbers fields are
all_of_kinds SomeIps fields known are = all_ips fields are
all_of_kinds OneDatagram fields known are = rw are.values (all_end _ (all_received are.datagram are.fits) all_give)
all_of_kinds OfAPolledCall fields known are = absurd known

code_all : (code : CodeWord) → All code_at code (code_text code ∷ [])
unfolding code_at
code_all code = all_last _ field_exactly tt (all_some _ (code_back code))

trap_all : (kind : TrapKind) → All trap_at kind (trap_text kind ∷ [])
unfolding trap_at
trap_all kind = all_last _ field_exactly tt (all_some _ (trap_back kind))

with_word : (kinds : FieldKinds) (n : ℕ) (word : List ℕ) {r : Reply} {taken : List (List ℕ)} → IsTrue (list_all is_visible word) → All (after_word (rows kinds n) word) r taken → All (reply_at kinds n) r (word ∷ taken)
unfolding reply_at
with_word kinds n word visible more = all_then _ word_exactly (visible_utf8 word visible) more

reply_all : (kinds : FieldKinds) (r : Reply) → AreKnown kinds → GivesAs kinds r → All (reply_at kinds (length (fields_of_reply r))) r (fields_of_reply r)
unfolding rows
reply_all kinds (reply.Ok fields) known gives = with_word kinds _ _ refl (all_end _ (all_of_kinds kinds fields known gives) all_give)
reply_all kinds (reply.Err code) known gives = with_word kinds _ _ refl (all_end _ (code_all code) all_give)
reply_all kinds (reply.Failed code handle) known gives = with_word kinds _ _ refl (all_both _ (code_all code) (all_last _ u32_exactly gives all_give))
reply_all kinds (reply.Trap kind) known gives = with_word kinds _ _ refl (all_end _ (trap_all kind) all_give)
reply_all kinds (reply.Pending n) known gives = with_word kinds _ _ refl (all_last _ u32_exactly gives all_give)
reply_all kinds _ known gives = with_word kinds _ _ refl all_give

-- the fields of replies are visible
code_visible : (code : CodeWord) → IsTrue (list_all is_visible (code_text code))
unfolding code_words
code_visible code = named_passes code_text (λ code. list_all is_visible (code_text code)) code_words (code_text code) code (code_back code) refl

trap_visible : (kind : TrapKind) → IsTrue (list_all is_visible (trap_text kind))
unfolding traps
trap_visible kind = named_passes trap_text (λ kind. list_all is_visible (trap_text kind)) traps (trap_text kind) kind (trap_back kind) refl

field_visible : (kind : FieldKind) (f : Field) → IsOfKind kind f → IsTrue (list_all is_visible (field_text f))
field_visible ANumber (field.Number n) is = number_visible n is
field_visible SomeBytes (field.Bytes bytes) is = (bytes_visible bytes is).0
field_visible Truth field.True is = refl
field_visible Truth field.False is = refl
field_visible Nothing field.Absent is = refl
field_visible _ _ is = absurd is

each_visible : (kinds : List FieldKind) (fields : List Field) → EachOfKind kinds fields → AreVisible (map field_text fields)
each_visible [] [] are = tt
each_visible (kind ∷ kinds) (f ∷ fields) are = (field_visible kind f are.0, each_visible kinds fields are.1)
each_visible [] (f ∷ fields) are = absurd are
each_visible (kind ∷ kinds) [] are = absurd are

datagram_visible : (d : IncomingDatagram) → FitsReceived d → AreVisible (map field_text (received_values d))
datagram_visible d fits =
    rw (received_texts d) (both_visible (address_fields d.remote_address) (bytes_fields d.bytes) (address_visible d.remote_address fits.0) (bytes_visible d.bytes fits.1))

received_visible : (ds : List IncomingDatagram) → AllByRecursion FitsReceived ds → AreVisible (map field_text (flat_map received_values ds))
received_visible [] fits = tt
received_visible (d ∷ ds) fits =
    rw (map-append field_text (received_values d) (flat_map received_values ds), received_texts d)
    (both_visible (address_fields d.remote_address ++ bytes_fields d.bytes) (map field_text (flat_map received_values ds))
    (both_visible (address_fields d.remote_address) (bytes_fields d.bytes) (address_visible d.remote_address fits.0.0) (bytes_visible d.bytes fits.0.1))
    (received_visible ds fits.1))

ip_visible : (a : IpAddress) → FitsIp a → AreVisible (ip_fields a)
ip_visible (ip.Ipv4 a) fits = search (arith, number_visible)
ip_visible (ip.Ipv6 a) fits = search (arith, number_visible)

ip_or_none_visible : (fields : List Field) → AreOfKinds AnIpOrNone fields → AreVisible (map field_text fields)
ip_or_none_visible fields (inl none) = rw none (refl, tt)
ip_or_none_visible fields (inr are) = rw (are.numbers, number_texts (ip_numbers are.address)) (ip_visible are.address are.fits)

fields_visible : (kinds : FieldKinds) (fields : List Field) → AreKnown kinds → AreOfKinds kinds fields → AreVisible (map field_text fields)
fields_visible (Each kinds) fields known are = each_visible kinds fields are
fields_visible AnAddress fields known are =
    rw (are.numbers, number_texts (address_numbers are.address)) (address_visible are.address are.fits)
fields_visible AnIpOrNone fields known are = ip_or_none_visible fields are
fields_visible ADatagramList fields known are = rw are.values (number_visible (length are.datagrams) are.count, received_visible are.datagrams are.fits)
fields_visible SomeNumbers fields known are = each_visible (so_many_numbers (length (map field_text fields))) fields (are_numbers fields are)
fields_visible SomeIps fields known are = each_visible (so_many_numbers (length (map field_text fields))) fields (are_ips fields are)
fields_visible OneDatagram fields known are = rw are.values (datagram_visible are.datagram are.fits)
fields_visible OfAPolledCall fields known are = absurd known

reply_visible : (kinds : FieldKinds) (r : Reply) → AreKnown kinds → GivesAs kinds r → AreVisible (fields_of_reply r)
reply_visible kinds (reply.Ok fields) known gives = (refl, fields_visible kinds fields known gives)
reply_visible kinds (reply.Err code) known gives = (refl, (code_visible code, tt))
reply_visible kinds (reply.Failed code handle) known gives = (refl, (code_visible code, (number_visible handle (omega arith), tt)))
reply_visible kinds (reply.Trap kind) known gives = (refl, (trap_visible kind, tt))
reply_visible kinds (reply.Pending n) known gives = (refl, (number_visible n (omega arith), tt))
reply_visible kinds _ known gives = (refl, tt)

no_reply : (kinds : FieldKinds) (n : ℕ) → reply_at kinds n [] ≡ None
unfolding reply_at read_then word_at field_at
no_reply kinds n = refl

-- a reply's fields are those of its line, and it is read back from them
line_read : (kinds : FieldKinds) (r : Reply) → AreKnown kinds → GivesAs kinds r → reply_in kinds (fields_of (line_with (fields_of_reply r))) ≡ Some (r, [])
line_read kinds r known gives =
    let read = rw append-nil at ((reply_all kinds r known gives).given []) in
    let some : fields_of_reply r ≡ [] → ⊥ = λ none. let first = rw none at read in cc (no_reply kinds (length (fields_of_reply r))) in
    rw (fields_of_line (fields_of_reply r) some (reply_visible kinds r known gives)) read

texts_differ : (kinds : FieldKinds) (r q : Reply) → AreKnown kinds → GivesAs kinds r → GivesAs kinds q → text_of r ≡ text_of q → r ≡ q
unfolding text_of
texts_differ kinds r q known hr hq same =
    let line = append_cancel_right (line_with (fields_of_reply r)) (line_with (fields_of_reply q)) (codes "\n") same in
    let one = line_read kinds r known hr in
    let two = line_read kinds q known hq in
    let read : ◌≡◌ {A = Option (Reply × List (List ℕ))} (Some (r, [])) (Some (q, [])) = sym one ∙ (ap (λ l. reply_in kinds (fields_of l)) line ∙ two) in
    (same_found r q [] [] read).0

pub step_replies_differ : (s : Step) (r q : Reply) → is_poll s ≡ false → Gives s r → Gives s q → text_of r ≡ text_of q → r ≡ q
step_replies_differ s r q other hr hq same = texts_differ (kinds_of s) r q (are_known s other) hr hq same

-- it is known of the fields of each call that can be pending
polled_known : (kinds : FieldKinds) → Contains polled_fields kinds → AreKnown kinds
polled_known OfAPolledCall among = grind arith
polled_known _ among = tt

pub polled_replies_differ : (kinds : FieldKinds) (r q : Reply) → Contains polled_fields kinds → GivesAs kinds r → GivesAs kinds q → text_of r ≡ text_of q → r ≡ q
polled_replies_differ kinds r q among hr hq same = texts_differ kinds r q (polled_known kinds among) hr hq same
