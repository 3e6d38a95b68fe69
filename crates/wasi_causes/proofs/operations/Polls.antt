-- A poll of an operation whose items are asked in turn is in the one table of such polls, and how those of a bind, of a connect
-- and of a listen end is read off it.
use Rattle.wasi_causes.proofs.Words.{◌≡◌, ◌∙◌, inl, inr, List, [], ◌∷◌, ◌++◌, refl, sym, ap, subst, append_assoc, append-nil, ⊤, IpSocketAddress, Send, SocketAddrUse, TcpBind, ErrorCode, AccessDenied, EndsPending, EndsClosing, ClosedBy, Has, entry, IsRestOfBind, IsLeftOfBind, Unchecked, Checked, Ended, BindFails, ListenEnds, IsConnect, IsListen, Asks, bind, IsVerdict, IsAddr, IsDoneOrCode, IsPolled, false, Given, Nothing, Item, Check, CheckLocal, Bind, Connect, Listen, LastAsk, NothingLast, CloseLast, ShutdownLast, Who, Operation, End, Waits, Done, Refused, last_ask, after, round, polls, poll_asks, verdict_front, local_front, done_front, polled_front, told_verdict, told_addr, told_done, told_polled, Entry, Told}
use Rattle.wasi_causes.proofs.tables.Meets.{Rows, Meets, ends, asks, told_so, widen, shifted}
use Rattle.wasi_causes.specs.Polls.{check_entry, local_entry, Passes, WritableToldDone, UdpBindToldDone, WritableToldPending, WritableToldCode, UdpBindToldCode, ToldYes, LocalToldYes, BindToldDone, ConnectToldDone, ListenToldDone, Holds, CheckToldPending, LocalToldPending, ConnectToldPending, Breaks, ToldNo, LocalToldNo, LocalToldCode, BindToldCode, ConnectToldCode, ListenToldCode, last_entries, Polled, WasOver, GoesOn, Stays, Stops, Broken}
use Rattle.wasi_addr.specs.declared.address.SocketAddrUse.TheVariants.{TcpListen}
use Rattle.wasi_tcp.specs.Listen.{none_left}
use Rattle.wasi_walks.specs.Answered.{AllOf, IsAskOfConnect}
use Rattle.wasi_walks.specs.Waiting.{IsAskLeft, IsAskOfBound, IsAskOfListen}
use Rattle.wasi_walks.proofs.Gives.{Gives}
use Rattle.wasi_walks.specs.Answered as refusal
use Rattle.wasi_world.specs.Operation.{UdpWritable, UdpBind}
use Rattle.wasi_walks.specs.Waiting as waiting
use Rattle.wasi_udp.specs.Bind as binds
use Rattle.wasi_addr.specs.declared.address.SocketAddrUse.TheVariants as usages
use Rattle.wasi_world.specs.declared.call.Call.TheVariants as call
use Rattle.wasi_world.specs.declared.call.Told.TheVariants as told

pub one_of : (P : Item → Type 0) (items : List Item) (item : Item) → AllOf P items → Has items item → P item
one_of P (x ∷ items) item all (inl same) = subst P same all.0
one_of P (x ∷ items) item all (inr its) = one_of P items item all.1 its
one_of P [] item all its = absurd its

abbrev pub IsAsk : Item → Type 0
IsAsk (Check a usage) = ⊤
IsAsk (CheckLocal usage) = ⊤
IsAsk (Bind a) = ⊤
IsAsk (Connect a) = ⊤
IsAsk (Listen backlog) = ⊤
IsAsk UdpWritable = ⊤
IsAsk (UdpBind a) = ⊤
IsAsk _ = ⊥

module _ (who : Who) (again : List Item → Asks (End × List Item)) where
  -- == the last ask
  pub lasts : (es : List Entry) (c : ErrorCode) (l : LastAsk) → Meets (λ fs end. (fs ≡ es ++ last_entries who l) × (end ≡ (Refused c Nothing, []))) es (last_ask who l c Nothing)
  unfolding bind
  lasts es c NothingLast = ends (sym (append-nil es), refl)
  lasts es c CloseLast = asks (λ t fits. ends (told_so who.id es (call.Close who.side) t fits, refl))
  lasts es c ShutdownLast = asks (λ t fits. ends (told_so who.id es (call.Shutdown who.side Send) t fits, refl))

  -- == an item, where these follow
  module _ (item : Item) (items : List Item) where
    abbrev Row : Rows (End × List Item)
    Row = Polled who (item ∷ items)

    stops : (es : List Entry) (c : ErrorCode) → Breaks who item es c → Meets Row es (last_ask who who.last c Nothing)
    stops es c broke = widen (λ fs end k. rw (k.0, k.1) (Stops item items es c broke)) (lasts es c who.last)

    module _ (next : Meets (Polled who items) [] (round again who Nothing items)) where
      passes : (es : List Entry) → Passes who item es → Meets Row es (round again who Nothing items)
      passes es passed = widen (λ fs end k. rw k.cut (GoesOn item items es k.rest end passed k.row)) (shifted es next)

      verdict : (now : Item) (es : Told → List Entry) → Passes who item (es told.Yes) → Holds who item (es told.Pending) now → Breaks who item (es told.No) AccessDenied
          → (t : Told) → IsVerdict t → Meets Row (es t) (after again who items (λ g. round again who g items) (verdict_front now (told_verdict t)))
      verdict now es passed held broke told.Yes fits = passes _ passed
      verdict now es passed held broke told.Pending fits = ends (Stays item now items _ held)
      verdict now es passed held broke told.No fits = stops _ AccessDenied broke
      verdict now es passed held broke _ fits = absurd fits

      done_or_code : (es : Told → List Entry) → Passes who item (es told.Done) → ((c : ErrorCode) → Breaks who item (es (told.Code c)) c)
          → (t : Told) → IsDoneOrCode t → Meets Row (es t) (after again who items (λ g. round again who g items) (done_front (told_done t)))
      done_or_code es done code told.Done fits = passes _ done
      done_or_code es done code (told.Code c) fits = stops _ c (code c)
      done_or_code es done code _ fits = absurd fits

  told_writable : (items : List Item) → Meets (Polled who items) [] (round again who Nothing items) → (t : Told) → IsPolled t
      → Meets (Polled who (UdpWritable ∷ items)) (entry who.id (call.UdpWritable who.side) t ∷ []) (after again who items (λ g. round again who g items) (polled_front UdpWritable (told_polled t)))
  told_writable items next told.Done fits = passes UdpWritable items next _ WritableToldDone
  told_writable items next told.Pending fits = ends (Stays UdpWritable UdpWritable items _ WritableToldPending)
  told_writable items next (told.Code c) fits = stops UdpWritable items _ c (WritableToldCode c)
  told_writable items next _ fits = absurd fits

  told_connect : (a : IpSocketAddress) (items : List Item) → Meets (Polled who items) [] (round again who Nothing items) → (t : Told) → IsPolled t
      → Meets (Polled who (Connect a ∷ items)) (entry who.id (call.Connect who.side a) t ∷ []) (after again who items (λ g. round again who g items) (polled_front (Connect a) (told_polled t)))
  told_connect a items next told.Done fits = passes (Connect a) items next _ (ConnectToldDone a)
  told_connect a items next told.Pending fits = ends (Stays (Connect a) (Connect a) items _ (ConnectToldPending a))
  told_connect a items next (told.Code c) fits = stops (Connect a) items _ c (ConnectToldCode a c)
  told_connect a items next _ fits = absurd fits

  told_local : (usage : SocketAddrUse) (items : List Item) → Meets (Polled who items) [] (round again who Nothing items) → (t : Told) → IsAddr t
      → Meets (Polled who (CheckLocal usage ∷ items)) (local_entry who t ∷ []) (bind (local_front who usage (told_addr t)) (after again who items (λ g. round again who g items)))
  unfolding bind
  told_local usage items next (told.Addr a) fits =
      asks (λ t fits. verdict (CheckLocal usage) items next (Check a usage) (λ t. local_entry who (told.Addr a) ∷ check_entry who a usage t ∷ []) (LocalToldYes a usage) (LocalToldPending a usage) (LocalToldNo a usage) t fits)
  told_local usage items next (told.Code c) fits = stops (CheckLocal usage) items _ c (LocalToldCode usage c)
  told_local usage items next _ fits = absurd fits

  in_turn : (items : List Item) → AllOf IsAsk items → Meets (Polled who items) [] (round again who Nothing items)
  unfolding bind
  in_turn [] all = ends WasOver
  in_turn (Check a usage ∷ items) all = asks (λ t fits. verdict (Check a usage) items (in_turn items all.1) (Check a usage) (λ t. check_entry who a usage t ∷ []) (ToldYes a usage) (CheckToldPending a usage) (ToldNo a usage) t fits)
  in_turn (CheckLocal usage ∷ items) all = asks (λ t fits. told_local usage items (in_turn items all.1) t fits)
  in_turn (Bind a ∷ items) all = asks (λ t fits. done_or_code (Bind a) items (in_turn items all.1) (λ t. entry who.id (call.Bind who.side a) t ∷ []) (BindToldDone a) (BindToldCode a) t fits)
  in_turn (Connect a ∷ items) all = asks (λ t fits. told_connect a items (in_turn items all.1) t fits)
  in_turn (Listen backlog ∷ items) all = asks (λ t fits. done_or_code (Listen backlog) items (in_turn items all.1) (λ t. entry who.id (call.Listen who.side backlog) t ∷ []) (ListenToldDone backlog) (ListenToldCode backlog) t fits)
  in_turn (UdpWritable ∷ items) all = asks (λ t fits. told_writable items (in_turn items all.1) t fits)
  in_turn (UdpBind a ∷ items) all = asks (λ t fits. done_or_code (UdpBind a) items (in_turn items all.1) (λ t. entry who.id (call.UdpBind who.side a) t ∷ []) (UdpBindToldDone a) (UdpBindToldCode a) t fits)
  in_turn (_ ∷ items) all = absurd all.0

pub polled : (op : Operation) → AllOf IsAsk op.left → Meets (Polled op.who op.left) [] (poll_asks op)
unfolding polls
polled op all = in_turn op.who (polls 63 op.who) op.left all

-- == how it ends
module _ (who : Who) where
  -- it waits, is done, or an item broke it
  abbrev pub EndsSo : List Item → Rows (End × List Item)
  EndsSo left es (Waits, items) = EndsPending who.id es
  EndsSo left es (Done given, items) = ⊤
  EndsSo left es (Refused c given, items) = Broken who left es c

  holds : (item now : Item) (es : List Entry) → Holds who item es now → EndsPending who.id es
  holds _ _ _ (CheckToldPending a usage) = record { front = []; last = _; cut = refl; op = refl; told = refl }
  holds _ _ _ (LocalToldPending a usage) = record { front = local_entry who (told.Addr a) ∷ []; last = _; cut = refl; op = refl; told = refl }
  holds _ _ _ WritableToldPending = record { front = []; last = _; cut = refl; op = refl; told = refl }
  holds _ _ _ (ConnectToldPending a) = record { front = []; last = _; cut = refl; op = refl; told = refl }

  later : (item : Item) (items : List Item) (es fs : List Entry) (end : End × List Item) → EndsSo items fs end → EndsSo (item ∷ items) (es ++ fs) end
  later item items es fs (Waits, left) k = record { front = es ++ k.front; last = k.last; cut = ap (λ (xs : List Entry). es ++ xs) k.cut ∙ sym (append_assoc es k.front (k.last ∷ [])); op = k.op; told = k.told }
  later item items es fs (Done given, left) k = tt
  later item items es fs (Refused c given, left) k =
      record { item = k.item; its = inr k.its; front = es ++ k.front; last = k.last; cut = ap (λ (xs : List Entry). es ++ xs) k.cut ∙ sym (append_assoc es k.front (k.last ++ last_entries who who.last)); broke = k.broke }

  pub ends_so : (left : List Item) (es : List Entry) (end : End × List Item) → Polled who left es end → EndsSo left es end
  ends_so _ _ _ WasOver = tt
  ends_so _ _ _ (GoesOn item items es fs end passed row) = later item items es fs end (ends_so items fs end row)
  ends_so _ _ _ (Stays item now items es held) = holds item now es held
  ends_so _ _ _ (Stops item items es c broke) = record { item = item; its = inl refl; front = []; last = es; cut = refl; broke = broke }

abbrev IsOver : End → Type 0
IsOver (Done given) = ⊤
IsOver _ = ⊥

is_over : (who : Who) (es : List Entry) (end : End × List Item) → Polled who [] es end → IsOver end.0
is_over who _ _ WasOver = tt

pub not_over : {who : Who} {es : List Entry} {c : ErrorCode} {given : Given} {items : List Item} → Polled who [] es (Refused c given, items) → ⊥
not_over {who} {es} {c} {given} {items} row = is_over who es (Refused c given, items) row

-- a bind is never pending
abbrev IsNoBind : Item → Type 0
IsNoBind (UdpBind a) = ⊥
IsNoBind (Bind a) = ⊥
IsNoBind _ = ⊤

no_bind : (who : Who) (item now : Item) (es : List Entry) → Holds who item es now → IsNoBind item
no_bind who _ _ _ (CheckToldPending a usage) = tt
no_bind who _ _ _ (LocalToldPending a usage) = tt
no_bind who _ _ _ WritableToldPending = tt
no_bind who _ _ _ (ConnectToldPending a) = tt

pub bind_never_waits : (who : Who) (a : IpSocketAddress) (es : List Entry) (items : List Item) → Polled who (UdpBind a ∷ []) es (Waits, items) → ⊥
bind_never_waits who a _ _ (GoesOn item items es fs end passed row) = is_over who fs end row
bind_never_waits who a _ _ (Stays item now items es held) = no_bind who item now es held

pub tcp_bind_never_waits : (who : Who) (a : IpSocketAddress) (es : List Entry) (items : List Item) → Polled who (Bind a ∷ []) es (Waits, items) → ⊥
tcp_bind_never_waits who a _ _ (GoesOn item items es fs end passed row) = is_over who fs end row
tcp_bind_never_waits who a _ _ (Stays item now items es held) = no_bind who item now es held

all_more : (P Q : Item → Type 0) → ((item : Item) → P item → Q item) → (items : List Item) → AllOf P items → AllOf Q items
all_more P Q more [] all = tt
all_more P Q more (item ∷ items) all = (more item all.0, all_more P Q more items all.1)

-- where an operation waits, this holds of each item that is left, and there is one
abbrev pub Keeps : (Item → Type 0) → End × List Item → Type 0
Keeps P (Waits, items) = AllOf P items × (none_left items ≡ false)
Keeps P _ = ⊤

module _ (op : Operation) where
  -- it waits, is done, or ends with a code for this reason
  abbrev pub EndsFor : (List Entry → ErrorCode → Type 0) → Rows (End × List Item)
  EndsFor Why es (Waits, items) = EndsPending op.who.id es
  EndsFor Why es (Done given, items) = ⊤
  EndsFor Why es (Refused c given, items) = Why es c

  module _ (P : Item → Type 0) (sorts : (item : Item) → P item → IsAsk item) (all : AllOf P op.left) where
    in_table : Meets (Polled op.who op.left) [] (poll_asks op)
    in_table = polled op (all_more P IsAsk sorts op.left all)

    module _ (Why : List Entry → ErrorCode → Type 0) (broken : (es : List Entry) (c : ErrorCode) (k : Broken op.who op.left es c) → P k.item → Why es c) where
      reads : (es : List Entry) (end : End × List Item) → Polled op.who op.left es end → EndsFor Why es end
      reads es (Waits, items) row = ends_so op.who op.left es (Waits, items) row
      reads es (Done given, items) row = tt
      reads es (Refused c given, items) row = let k = ends_so op.who op.left es (Refused c given, items) row in broken es c k (one_of P op.left k.item all k.its)

      ends_for : Meets (EndsFor Why) [] (poll_asks op)
      ends_for = widen reads in_table

    -- what waits is of this kind still
    module _ (stays : (item now : Item) (es : List Entry) → Holds op.who item es now → P item → P now) where
      keeps : (left : List Item) (es : List Entry) (end : End × List Item) → Polled op.who left es end → AllOf P left → Keeps P end
      keeps _ _ _ WasOver of = tt
      keeps _ _ _ (GoesOn item items es fs end passed row) of = keeps items fs end row of.1
      keeps _ _ _ (Stays item now items es held) of = ((stays item now es held of.0, of.1), refl)
      keeps _ _ _ (Stops item items es c broke) of = tt

      leaves : (es : List Entry) → Gives (λ fs end. Keeps P end) es (poll_asks op)
      leaves es = (widen (λ fs end k. keeps op.left k.rest end k.row all) (shifted es in_table)).along

  at_end : (es : List Entry) (c : ErrorCode) (k : Broken op.who op.left es c) (l : LastAsk) → op.who.last ≡ l → es ≡ k.front ++ (k.last ++ last_entries op.who l)
  at_end es c k l last = subst (λ (l : LastAsk). es ≡ k.front ++ (k.last ++ last_entries op.who l)) last k.cut

  -- == a bind
  abbrev OfBind : Item → Type 0
  OfBind (Check a TcpBind) = ⊤
  OfBind (Bind a) = ⊤
  OfBind _ = ⊥

  bind_sorts : (item : Item) → OfBind item → IsAsk item
  bind_sorts (Check a usage) of = tt
  bind_sorts (Bind a) of = tt
  bind_sorts _ of = absurd of

  bind_items : (items : List Item) → IsLeftOfBind items → AllOf OfBind items
  bind_items _ (Unchecked a) = (tt, (tt, tt))
  bind_items _ (Checked a) = (tt, tt)
  bind_items _ Ended = tt

  bind_broken : (es front last : List Entry) (item : Item) (c : ErrorCode) → OfBind item → Has op.left item → Breaks op.who item last c → es ≡ front ++ (last ++ []) → BindFails op es c
  bind_broken es front _ _ _ of has (ToldNo a TcpBind) cut = waiting.ToldNo a has (record { front = front; cut = cut })
  bind_broken es front _ _ _ of has (ToldNo a _) cut = absurd of
  bind_broken es front _ _ _ of has (BindToldCode a c) cut = waiting.ToldWhy a c has (record { front = front; cut = cut })
  bind_broken es front _ _ _ of has _ cut = absurd of

  pub bind_ends : IsRestOfBind op → Meets (EndsFor (BindFails op)) [] (poll_asks op)
  bind_ends its = ends_for OfBind bind_sorts (bind_items op.left its.left) (BindFails op) (λ es c k of. bind_broken es k.front k.last k.item c of k.its k.broke (at_end es c k NothingLast its.last))

  -- == a create of a UDP socket
  abbrev OfCreate : Item → Type 0
  OfCreate UdpWritable = ⊤
  OfCreate _ = ⊥

  create_sorts : (item : Item) → OfCreate item → IsAsk item
  create_sorts UdpWritable of = tt
  create_sorts _ of = absurd of

  create_items : (items : List Item) → items ≡ UdpWritable ∷ [] → AllOf OfCreate items
  create_items items e = subst (AllOf OfCreate) (sym e) (tt, tt)

  -- it was answered with the code, and closed its network socket
  abbrev pub CreateFails : List Entry → ErrorCode → Type 0
  CreateFails es c = EndsClosing op.who (call.UdpWritable op.who.side) (told.Code c) es

  create_broken : (es front last : List Entry) (item : Item) (c : ErrorCode) → OfCreate item → Breaks op.who item last c → es ≡ front ++ (last ++ entry op.who.id (call.Close op.who.side) told.Done ∷ []) → CreateFails es c
  create_broken es front _ _ _ of (WritableToldCode c) cut = record { front = front; cut = cut }
  create_broken es front _ _ _ of _ cut = absurd of

  pub create_ends : (op.who.last ≡ CloseLast) × (op.left ≡ UdpWritable ∷ []) → Meets (EndsFor CreateFails) [] (poll_asks op)
  create_ends its = ends_for OfCreate create_sorts (create_items op.left its.1) CreateFails (λ es c k of. create_broken es k.front k.last k.item c of k.broke (at_end es c k CloseLast its.0))

  -- == a bind of a UDP socket
  abbrev OfUdpBind : Item → Type 0
  OfUdpBind (Check a usages.UdpBind) = ⊤
  OfUdpBind (UdpBind a) = ⊤
  OfUdpBind _ = ⊥

  udp_bind_sorts : (item : Item) → OfUdpBind item → IsAsk item
  udp_bind_sorts (Check a usage) of = tt
  udp_bind_sorts (UdpBind a) of = tt
  udp_bind_sorts _ of = absurd of

  udp_bind_items : (items : List Item) → binds.IsLeftOfBind items → AllOf OfUdpBind items
  udp_bind_items _ (binds.Unchecked a) = (tt, (tt, tt))
  udp_bind_items _ (binds.Checked a) = (tt, tt)
  udp_bind_items _ binds.Ended = tt

  udp_bind_broken : (es front last : List Entry) (item : Item) (c : ErrorCode) → OfUdpBind item → Has op.left item → Breaks op.who item last c → es ≡ front ++ (last ++ []) → waiting.UdpBindFails op es c
  udp_bind_broken es front _ _ _ of has (ToldNo a usages.UdpBind) cut = waiting.UdpToldNo a has (record { front = front; cut = cut })
  udp_bind_broken es front _ _ _ of has (ToldNo a _) cut = absurd of
  udp_bind_broken es front _ _ _ of has (UdpBindToldCode a c) cut = waiting.UdpToldWhy a c has (record { front = front; cut = cut })
  udp_bind_broken es front _ _ _ of has _ cut = absurd of

  pub udp_bind_ends : binds.IsBind op → Meets (EndsFor (waiting.UdpBindFails op)) [] (poll_asks op)
  udp_bind_ends its = ends_for OfUdpBind udp_bind_sorts (udp_bind_items op.left its.left) (waiting.UdpBindFails op) (λ es c k of. udp_bind_broken es k.front k.last k.item c of k.its k.broke (at_end es c k NothingLast its.last))

  -- == a connect
  connect_sorts : (item : Item) → IsAskOfConnect item → IsAsk item
  connect_sorts (Check a usage) of = tt
  connect_sorts (Connect a) of = tt
  connect_sorts _ of = absurd of

  connect_stays : (item now : Item) (es : List Entry) → Holds op.who item es now → IsAskOfConnect item → IsAskOfConnect now
  connect_stays _ _ _ (CheckToldPending a usage) of = of
  connect_stays _ _ _ (LocalToldPending a usage) of = absurd of
  connect_stays _ _ _ WritableToldPending of = absurd of
  connect_stays _ _ _ (ConnectToldPending a) of = of

  abbrev closed : Entry
  closed = entry op.who.id (call.Close op.who.side) told.Done

  connect_broken : (es front last : List Entry) (item : Item) (c : ErrorCode) → IsAskOfConnect item → Has op.left item → Breaks op.who item last c → es ≡ front ++ (last ++ closed ∷ []) → ClosedBy op es c
  connect_broken es front _ _ _ of has (ToldNo a usage) cut = refusal.ToldNo a usage has (record { front = front; cut = cut })
  connect_broken es front _ _ _ of has (ConnectToldCode a c) cut = refusal.ToldWhy a c has (record { front = front; cut = cut })
  connect_broken es front _ _ _ of has _ cut = absurd of

  pub connect_ends : IsConnect op × AllOf IsAskOfConnect op.left → Meets (EndsFor (ClosedBy op)) [] (poll_asks op)
  connect_ends its = ends_for IsAskOfConnect connect_sorts its.1 (ClosedBy op) (λ es c k of. connect_broken es k.front k.last k.item c of k.its k.broke (at_end es c k CloseLast its.0.last))

  pub connect_in_table : AllOf IsAskOfConnect op.left → Meets (Polled op.who op.left) [] (poll_asks op)
  connect_in_table of = in_table IsAskOfConnect connect_sorts of

  pub connect_leaves : AllOf IsAskOfConnect op.left → (es : List Entry) → Gives (λ fs end. Keeps IsAskOfConnect end) es (poll_asks op)
  connect_leaves of = leaves IsAskOfConnect connect_sorts of connect_stays

  -- == a listen
  listen_sorts : (item : Item) → IsAskOfListen item → IsAsk item
  listen_sorts (CheckLocal usage) of = tt
  listen_sorts (Check a usage) of = tt
  listen_sorts (Bind a) of = tt
  listen_sorts (Listen backlog) of = tt
  listen_sorts _ of = absurd of

  listen_stays : (item now : Item) (es : List Entry) → Holds op.who item es now → IsAskOfListen item → IsAskOfListen now
  listen_stays _ _ _ (CheckToldPending a usage) of = of
  listen_stays _ _ _ (LocalToldPending a TcpListen) of = tt
  listen_stays _ _ _ (LocalToldPending a _) of = absurd of
  listen_stays _ _ _ WritableToldPending of = absurd of
  listen_stays _ _ _ (ConnectToldPending a) of = absurd of

  bound_sorts : (item : Item) → IsAskOfBound item → IsAsk item
  bound_sorts (CheckLocal usage) of = tt
  bound_sorts (Check a usage) of = tt
  bound_sorts (Listen backlog) of = tt
  bound_sorts _ of = absurd of

  bound_stays : (item now : Item) (es : List Entry) → Holds op.who item es now → IsAskOfBound item → IsAskOfBound now
  bound_stays _ _ _ (CheckToldPending a usage) of = of
  bound_stays _ _ _ (LocalToldPending a TcpListen) of = tt
  bound_stays _ _ _ (LocalToldPending a _) of = absurd of
  bound_stays _ _ _ WritableToldPending of = absurd of
  bound_stays _ _ _ (ConnectToldPending a) of = absurd of

  left_sorts : (item : Item) → IsAskLeft item → IsAsk item
  left_sorts (Check a usage) of = tt
  left_sorts (Bind a) of = tt
  left_sorts (Listen backlog) of = tt
  left_sorts _ of = absurd of

  listen_broken : (es front last : List Entry) (item : Item) (c : ErrorCode) → IsAskLeft item → Has op.left item → Breaks op.who item last c → es ≡ front ++ (last ++ closed ∷ []) → ListenEnds op es c
  listen_broken es front _ _ _ of has (ToldNo a TcpListen) cut = waiting.CheckedNo a (record { front = front; cut = cut })
  listen_broken es front _ _ _ of has (ToldNo a TcpBind) cut = waiting.CheckedNoBind a has (record { front = front; cut = cut })
  listen_broken es front _ _ _ of has (ToldNo a _) cut = absurd of
  listen_broken es front _ _ _ of has (BindToldCode a c) cut = waiting.BindCode a c has (record { front = front; cut = cut })
  listen_broken es front _ _ _ of has (ListenToldCode backlog c) cut = waiting.ListenCode backlog c (record { front = front; cut = cut })
  listen_broken es front _ _ _ of has _ cut = absurd of

  pub listen_ends : IsListen op × AllOf IsAskLeft op.left → Meets (EndsFor (ListenEnds op)) [] (poll_asks op)
  listen_ends its = ends_for IsAskLeft left_sorts its.1 (ListenEnds op) (λ es c k of. listen_broken es k.front k.last k.item c of k.its k.broke (at_end es c k CloseLast its.0.last))

  pub listen_in_table : AllOf IsAskLeft op.left → Meets (Polled op.who op.left) [] (poll_asks op)
  listen_in_table of = in_table IsAskLeft left_sorts of

  pub bound_listen_leaves : AllOf IsAskOfBound op.left → (es : List Entry) → Gives (λ fs end. Keeps IsAskOfBound end) es (poll_asks op)
  bound_listen_leaves of = leaves IsAskOfBound bound_sorts of bound_stays

  pub listen_leaves : AllOf IsAskOfListen op.left → (es : List Entry) → Gives (λ fs end. Keeps IsAskOfListen end) es (poll_asks op)
  listen_leaves of = leaves IsAskOfListen listen_sorts of listen_stays
