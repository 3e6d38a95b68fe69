-- The pieces that are written are the text of a log.
use Rattle.std.specs.Prelude.{codes}
use Rattle.std.proofs.Common.{◌≡◌, ℕ, Bool, true, false, List, [], ◌∷◌, ◌++◌, map, flat_map, decimal, Option, Some, None, append-nil, append_assoc, ap, sym, ◌∙◌, refl}
use Rattle.std.proofs.lemmas.Bool.{and_parts}
use Rattle.std.proofs.lemmas.Grind.{flat_map-append}
use Rattle.wasi_addr.specs.declared.address.IpAddress.{IpAddress}
use Rattle.wasi_addr.specs.declared.address.IpAddress.TheVariants as ip
use Rattle.wasi_addr.specs.declared.address.IpSocketAddress.TheVariants as socket
use Rattle.wasi_world.specs.declared.call.Call.{Call}
use Rattle.wasi_world.specs.declared.call.Call.TheVariants as call
use Rattle.wasi_world.specs.declared.call.Entry.{Entry}
use Rattle.wasi_world.specs.declared.call.HandleKind.{HandleKind}
use Rattle.wasi_world.specs.declared.call.Told.{Told}
use Rattle.wasi_world.specs.declared.call.Told.TheVariants as told
use Rattle.wasi_world.specs.declared.ids.OpId.{OpId}
use Rattle.wasi_world.specs.declared.outcome.WasiSocketsCtx.{WasiSocketsCtx}
use Rattle.world_text.specs.EntryText.{ip_text, ips_text, call_text, told_text, sock_text}
use Rattle.world_text.specs.Fields.{line_with}
use Rattle.world_text.specs.Written.{ip_fields}
use Rattle.wasi_replay.specs.Arguments.{Kind, ASock, ANumber, AValue, AFamily, AnAddress, AUse, AHalf, AnOption, SomeBytes, AHandleKind, AParent, AMaybeSock, ACode, SomeIps, Value, value_fields, Values, values_fields}
use Rattle.wasi_replay.specs.Calls.{call_signature, call_fields, told_fields}
use Rattle.wasi_replay.specs.Log.{context_line, entry_line, text_of_lines, log_text}
use Rattle.wasi_replay.specs.Pieces.{context_text, contexts_text, entry_text, entries_text, pieces}
use Rattle.wasi_replay.proofs.ArgumentLaws.{goes_on, all_go_on}

-- == fields that are joined
joined : (f : List ℕ) (fs : List (List ℕ)) (g : List ℕ) (gs : List (List ℕ)) → line_with ((f ∷ fs) ++ g ∷ gs) ≡ line_with (f ∷ fs) ++ 32 ∷ line_with (g ∷ gs)
joined f [] g gs = refl
joined f (h ∷ fs) g gs = ap (λ r. f ++ 32 ∷ r) (joined h fs g gs) ∙ sym (append_assoc f (32 ∷ line_with (h ∷ fs)) (32 ∷ line_with (g ∷ gs)))

-- a line of fields as the first of others
joined_first : (f : List ℕ) (fs rest : List (List ℕ)) → line_with (line_with (f ∷ fs) ∷ rest) ≡ line_with ((f ∷ fs) ++ rest)
joined_first f fs [] = ap line_with (sym (append-nil (f ∷ fs)))
joined_first f fs (g ∷ gs) = sym (joined f fs g gs)

joined_second : (w : List ℕ) (fields rest : List (List ℕ)) → (fields ≡ [] → ⊥) → line_with (w ∷ line_with fields ∷ rest) ≡ line_with (w ∷ (fields ++ rest))
joined_second w [] rest some = absurd (some refl)
joined_second w (f ∷ fs) rest some = ap (λ r. w ++ 32 ∷ r) (joined_first f fs rest)

-- == the text of arguments
abbrev values_texts : (kinds : List Kind) → Values kinds → List (List ℕ)
values_texts [] values = []
values_texts (kind ∷ kinds) values = line_with (value_fields kind values.0) ∷ values_texts kinds values.1

has_field : (kind : Kind) (value : Value kind) → goes_on kind ≡ true → value_fields kind value ≡ [] → ⊥
has_field AnAddress (socket.Ipv4 a) more h = cc
has_field AnAddress (socket.Ipv6 a) more h = cc
has_field AParent None more h = cc
has_field AParent (Some n) more h = cc
has_field AMaybeSock None more h = cc
has_field AMaybeSock (Some sock) more h = cc
has_field ASock value more h = cc
has_field ANumber value more h = cc
has_field AValue value more h = cc
has_field AFamily value more h = cc
has_field AUse value more h = cc
has_field AHalf value more h = cc
has_field AnOption value more h = cc
has_field SomeBytes value more h = cc
has_field AHandleKind value more h = cc
has_field ACode value more h = cc
has_field SomeIps value more h = absurd (cc)

texts_are : (w : List ℕ) (kinds : List Kind) (values : Values kinds) → all_go_on kinds ≡ true → line_with (w ∷ values_texts kinds values) ≡ line_with (w ∷ values_fields kinds values)
texts_are w [] values go = refl
texts_are w (kind ∷ kinds) values go =
    let both = and_parts (goes_on kind) _ go in
    ap (λ r. w ++ 32 ∷ r) (texts_are (line_with (value_fields kind values.0)) kinds values.1 both.1)
    ∙ joined_second w (value_fields kind values.0) (values_fields kinds values.1) (has_field kind values.0 both.0)

-- == calls
call_goes_on : (c : Call) → all_go_on (call_signature c).written.kinds ≡ true
call_goes_on (call.Lookup host) = refl
call_goes_on _ = refl

made_texts : (handle : ℕ) (kind : HandleKind) (parent : Option ℕ) (sock : Option OpId) → let is = (call_signature (call.Made handle kind parent sock)).written in call_text (call.Made handle kind parent sock) ≡ line_with (is.word ∷ values_texts is.kinds is.values)
made_texts handle kind None None = refl
made_texts handle kind None (Some sock) = refl
made_texts handle kind (Some parent) None = refl
made_texts handle kind (Some parent) (Some sock) = refl

call_texts : (c : Call) → call_text c ≡ line_with ((call_signature c).written.word ∷ values_texts (call_signature c).written.kinds (call_signature c).written.values)
call_texts (call.Made handle kind parent sock) = made_texts handle kind parent sock
call_texts _ = refl

call_text_is : (c : Call) → call_text c ≡ line_with (call_fields c)
call_text_is c = call_texts c ∙ texts_are (call_signature c).written.word (call_signature c).written.kinds (call_signature c).written.values (call_goes_on c)

-- == answers
ip_first : (w : List ℕ) (a : IpAddress) (rest : List (List ℕ)) → line_with (w ∷ ip_text a ∷ rest) ≡ line_with (w ∷ (ip_fields a ++ rest))
ip_first w (ip.Ipv4 a) rest = joined_second w (ip_fields (ip.Ipv4 a)) rest (λ h. cc)
ip_first w (ip.Ipv6 a) rest = joined_second w (ip_fields (ip.Ipv6 a)) rest (λ h. cc)

ips_are : (w : List ℕ) (addresses : List IpAddress) → w ++ ips_text addresses ≡ line_with (w ∷ flat_map ip_fields addresses)
ips_are w [] = append-nil w
ips_are w (a ∷ addresses) = ap (λ r. w ++ 32 ∷ r) (ips_are (ip_text a) addresses) ∙ ip_first w a (flat_map ip_fields addresses)

told_text_is : (t : Told) → told_text t ≡ line_with (told_fields t)
told_text_is (told.Names addresses) = ips_are (codes "names") addresses ∙ ap (λ fs. line_with (codes "names" ∷ fs)) (sym (append-nil (flat_map ip_fields addresses)))
told_text_is (told.Code c) = texts_are (codes "code") (ACode ∷ []) (c, tt) refl
told_text_is (told.Addr a) = texts_are (codes "addr") (AnAddress ∷ []) (a, tt) refl
told_text_is (told.Arrived a) = texts_are (codes "arrived") (AnAddress ∷ []) (a, tt) refl
told_text_is (told.Bytes bytes) = texts_are (codes "bytes") (SomeBytes ∷ []) (bytes, tt) refl
told_text_is (told.Took bytes) = texts_are (codes "took") (SomeBytes ∷ []) (bytes, tt) refl
told_text_is (told.Datagram bytes a) = texts_are (codes "datagram") (AnAddress ∷ SomeBytes ∷ []) (a, (bytes, tt)) refl
told_text_is (told.Value value) = texts_are (codes "value") (AValue ∷ []) (value, tt) refl
told_text_is _ = refl

-- == lines
spaced : (a b c d s e n : List ℕ) → (a ++ (s ++ b)) ++ s ++ c ++ e ++ d ++ n ≡ (a ++ (s ++ (b ++ (s ++ (c ++ (e ++ d)))))) ++ n
spaced a b c d s e n = simp append_assoc refl

abbrev entry_with : Entry → List ℕ → List ℕ → List ℕ
entry_with e call answer = sock_text e.op ++ codes " " ++ call ++ codes " = " ++ answer ++ codes "\n"

entry_text_is : (e : Entry) → entry_text e ≡ entry_line e ++ 10 ∷ []
entry_text_is e =
    let words = values_fields (call_signature e.call).written.kinds (call_signature e.call).written.values in
    let last = joined (call_signature e.call).written.word words (codes "=") (told_fields e.answer) in
    ap (λ c. entry_with e c (told_text e.answer)) (call_text_is e.call)
    ∙ (ap (entry_with e (line_with (call_fields e.call))) (told_text_is e.answer)
    ∙ (spaced (decimal e.op.step) (decimal e.op.part) (line_with (call_fields e.call)) (line_with (told_fields e.answer)) (codes " ") (codes " = ") (codes "\n")
    ∙ ap (λ r. (decimal e.op.step ++ 32 ∷ (decimal e.op.part ++ 32 ∷ r)) ++ 10 ∷ []) (sym last)))

pub entries_text_is : (log : List Entry) → entries_text log ≡ text_of_lines (map entry_line log)
entries_text_is [] = refl
entries_text_is (e ∷ log) = ap (λ t. t ++ entries_text log) (entry_text_is e) ∙ ap (λ t. (entry_line e ++ 10 ∷ []) ++ t) (entries_text_is log)

abbrev context_of : ℕ → ℕ → Bool → Bool → Bool → WasiSocketsCtx
context_of name limit tcp udp lookup = record { name = name; ip_name_lookup = lookup; udp = udp; tcp = tcp; write_limit = limit }

context_by : (name limit : ℕ) (tcp udp lookup : Bool) → context_text (context_of name limit tcp udp lookup) ≡ context_line (context_of name limit tcp udp lookup) ++ 10 ∷ []
context_by name limit true true true = refl
context_by name limit true true false = refl
context_by name limit true false true = refl
context_by name limit true false false = refl
context_by name limit false true true = refl
context_by name limit false true false = refl
context_by name limit false false true = refl
context_by name limit false false false = refl

pub contexts_text_is : (contexts : List WasiSocketsCtx) → contexts_text contexts ≡ text_of_lines (map context_line contexts)
contexts_text_is [] = refl
contexts_text_is (context ∷ contexts) =
    ap (λ t. t ++ contexts_text contexts) (context_by context.name context.write_limit context.tcp context.udp context.ip_name_lookup)
    ∙ ap (λ t. (context_line context ++ 10 ∷ []) ++ t) (contexts_text_is contexts)

abbrev line_of : List ℕ → List ℕ
line_of text = text ++ 10 ∷ []

grouped : (a b c : List ℕ) → a ++ b ++ c ≡ a ++ (b ++ c)
grouped a b c = simp append_assoc refl

pub pieces_are : (contexts : List WasiSocketsCtx) (log : List Entry) → pieces contexts log ≡ log_text contexts log
pieces_are contexts log =
    grouped (contexts_text contexts) (entries_text log) (codes "end\n")
    ∙ (ap (λ t. t ++ (entries_text log ++ codes "end\n")) (contexts_text_is contexts)
    ∙ (ap (λ t. text_of_lines (map context_line contexts) ++ (t ++ codes "end\n")) (entries_text_is log)
    ∙ sym (flat_map-append line_of (map context_line contexts) (map entry_line log ++ codes "end" ∷ [])
    ∙ ap (λ more. text_of_lines (map context_line contexts) ++ more) (flat_map-append line_of (map entry_line log) (codes "end" ∷ [])))))
