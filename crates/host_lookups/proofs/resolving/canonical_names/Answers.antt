use Rattle.std.proofs.Math.Seq.{take-append_seam}
use Rattle.std.proofs.Common.{◌≡◌, ◌<◌, ◌++◌, List, length, take, drop, slice_set, slice_index_or, ap, sym, ◌∙◌, subst, add-one, arith}
use Rattle.wasi_addr.specs.Address.{canonical}
use Rattle.wasi_addr.specs.declared.address.IpAddress.{IpAddress}
use Rattle.lookup_records.proofs.NameLookups.{converted, converted_all, converted_next}
use Rattle.host_lookups.proofs.resolving.canonical_names.Goals as goal

pub loop-address-init : goal.loop-address-init
loop-address-init c = c.deref_mut-address-items.ensures.value ∙ c.into_vec-addresses.ensures

pub loop-address-preserved : goal.loop-address-preserved
loop-address-preserved c =
    let i = c.loop-address.address-index in
    let below : i < length c.args.names = subst (λ (xs : List IpAddress). i < length xs) (c.deref_mut-address-items.ensures.value ∙ c.into_vec-addresses.ensures) c.loop-address-test.true in
    ap (λ (a : IpAddress). slice_set c.loop-address.address-items i a) c.to_canonical.ensures
    ∙ (ap (λ (xs : List IpAddress). slice_set xs i (canonical (slice_index_or xs i _))) c.loop-address.invariant
    ∙ (converted_next i c.args.names _ below ∙ ap (λ n. converted n c.args.names) (sym (add-one i))))

pub returns : goal.returns
returns c =
    let names = c.args.names in
    let items = c.loop-address.address-items in
    let whole = c.deref_mut-address-items.ensures.value ∙ c.into_vec-addresses.ensures in
    let count : c.loop-address.address-index ≡ length names = (let l = ap length whole in let f = c.loop-address-test.false in let e = c.loop-address.auto.address-index-end in omega arith) in
    let len : c.into_vec-addresses.result.len ≡ length items = (let a = c.into_vec-addresses.result.ok in let b = ap length c.deref_mut-address-items.ensures.value in let d = c.loop-address.auto.address-items in omega arith) in
    c.from_vec.ensures
    ∙ (ap (λ n. take n (items ++ drop (length items) c.into_vec-addresses.result.items)) len
    ∙ (take-append_seam items _
    ∙ (c.loop-address.invariant ∙ (ap (λ n. converted n names) count ∙ converted_all names))))
