use mathlib.Core.Path.{◌≡◌, sym, ◌∙◌}
use native.Mathlib.Omega.{arith}
use mathlib.Core.Option.{some}
use Prim.Native.Nat.{◌+◌, ◌-◌, ◌≤◌}
use lib.ListN.{length, take, drop}
use Rattle.std.proofs.lemmas.Result.{err_from_is_err_and}
use Rattle.lang_headers.proofs.KindLang.{kind_lang}
use Rattle.texts.proofs.Slices.{tail_room}
use Rattle.read_text.specs.Telling.{long_told}
use Rattle.read_text.proofs.TextCases.{HeaderTold, header_told, no_header, header_le, kind_told, no_kind, kind_le, no_body, text_found}
use Rattle.read_text.proofs.ReadingCases.{TextTold, text_told, told_unread, reads_nothing, reads_unfit, reads_accepted}
use Rattle.read_text.proofs.reading_of.Goals as goal

pub returns-then-text-gt4096 : goal.returns-then-text-gt4096
returns-then-text-gt4096 c = long_told _ c.if-text-gt4096.true

pub returns-in_err-header : goal.returns-in_err-header
returns-in_err-header c =
    let p = err_from_is_err_and c.from_residual.result c.from_residual.ensures.1 in
    rw (p.1, p.2) (told_unread c.args.text.now c.in_err-header.ensures.ok_part c.in_err-header.ensures.value (reads_nothing _ c.if-text-gt4096.false (no_header _ (sym c.in_err-header.ensures.ok_part ∙ c.header_at.ensures))))

pub slice_bounds-kind_at-count : goal.slice_bounds-kind_at-count
slice_bounds-kind_at-count c =
    let head : HeaderTold c.args.text.now (c.in_ok-header.header, c.in_ok-header.n) = header_told _ _ (sym c.in_ok-header.ensures.ok_part ∙ c.header_at.ensures) in
    header_le _ head

pub slice_bounds-kind_at-start : goal.slice_bounds-kind_at-start
slice_bounds-kind_at-start c =
    let head : HeaderTold c.args.text.now (c.in_ok-header.header, c.in_ok-header.n) = header_told _ _ (sym c.in_ok-header.ensures.ok_part ∙ c.header_at.ensures) in
    header_le _ head

pub returns-in_err-kind : goal.returns-in_err-kind
returns-in_err-kind c =
    let p = err_from_is_err_and c.from_residual-in_err-kind.result c.from_residual-in_err-kind.ensures.1 in
    let head : HeaderTold c.args.text.now (c.in_ok-header.header, c.in_ok-header.n) = header_told _ _ (sym c.in_ok-header.ensures.ok_part ∙ c.header_at.ensures) in
    rw (p.1, p.2) (told_unread c.args.text.now c.in_err-kind.ensures.ok_part c.in_err-kind.ensures.value (reads_nothing _ c.if-text-gt4096.false (no_kind _ head (sym c.in_err-kind.ensures.ok_part ∙ c.kind_at.ensures))))

pub overflow_add-k : goal.overflow_add-k
overflow_add-k c =
    let letter : kind_lang.parse (take (length c.args.text.now - c.in_ok-header.n) (drop c.in_ok-header.n c.args.text.now)) ≡ some c.in_ok-kind.kind = kind_told _ _ (sym c.in_ok-kind.ensures.ok_part ∙ c.kind_at.ensures) in
    let head : HeaderTold c.args.text.now (c.in_ok-header.header, c.in_ok-header.n) = header_told _ _ (sym c.in_ok-header.ensures.ok_part ∙ c.header_at.ensures) in
    omega (arith, kind_le _ head letter)

pub slice_bounds-body_at-count : goal.slice_bounds-body_at-count
slice_bounds-body_at-count c =
    let letter : kind_lang.parse (take (length c.args.text.now - c.in_ok-header.n) (drop c.in_ok-header.n c.args.text.now)) ≡ some c.in_ok-kind.kind = kind_told _ _ (sym c.in_ok-kind.ensures.ok_part ∙ c.kind_at.ensures) in
    let head : HeaderTold c.args.text.now (c.in_ok-header.header, c.in_ok-header.n) = header_told _ _ (sym c.in_ok-header.ensures.ok_part ∙ c.header_at.ensures) in
    kind_le _ head letter

pub slice_bounds-body_at-start : goal.slice_bounds-body_at-start
slice_bounds-body_at-start c =
    let letter : kind_lang.parse (take (length c.args.text.now - c.in_ok-header.n) (drop c.in_ok-header.n c.args.text.now)) ≡ some c.in_ok-kind.kind = kind_told _ _ (sym c.in_ok-kind.ensures.ok_part ∙ c.kind_at.ensures) in
    let head : HeaderTold c.args.text.now (c.in_ok-header.header, c.in_ok-header.n) = header_told _ _ (sym c.in_ok-header.ensures.ok_part ∙ c.header_at.ensures) in
    kind_le _ head letter

pub body_at-requires : goal.body_at-requires
body_at-requires c =
    let letter : kind_lang.parse (take (length c.args.text.now - c.in_ok-header.n) (drop c.in_ok-header.n c.args.text.now)) ≡ some c.in_ok-kind.kind = kind_told _ _ (sym c.in_ok-kind.ensures.ok_part ∙ c.kind_at.ensures) in
    let head : HeaderTold c.args.text.now (c.in_ok-header.header, c.in_ok-header.n) = header_told _ _ (sym c.in_ok-header.ensures.ok_part ∙ c.header_at.ensures) in
    let short : length c.args.text.now ≤ 4096 = c.if-text-gt4096.false in
    omega (arith, tail_room {most = 4096} 0 (c.in_ok-header.n + 3) c.args.text.now (omega (arith, short)) (kind_le _ head letter))

pub returns-in_err-body : goal.returns-in_err-body
returns-in_err-body c =
    let p = err_from_is_err_and c.from_residual-in_err-body.result c.from_residual-in_err-body.ensures.1 in
    let letter : kind_lang.parse (take (length c.args.text.now - c.in_ok-header.n) (drop c.in_ok-header.n c.args.text.now)) ≡ some c.in_ok-kind.kind = kind_told _ _ (sym c.in_ok-kind.ensures.ok_part ∙ c.kind_at.ensures) in
    let head : HeaderTold c.args.text.now (c.in_ok-header.header, c.in_ok-header.n) = header_told _ _ (sym c.in_ok-header.ensures.ok_part ∙ c.header_at.ensures) in
    rw (p.1, p.2) (told_unread c.args.text.now c.in_err-body.ensures.ok_part c.in_err-body.ensures.value (reads_nothing _ c.if-text-gt4096.false (no_body _ head letter (sym c.in_err-body.ensures.ok_part ∙ c.body_at.ensures))))

pub returns-in-DoesNotFit : goal.returns-in-DoesNotFit
returns-in-DoesNotFit c =
    let letter : kind_lang.parse (take (length c.args.text.now - c.in_ok-header.n) (drop c.in_ok-header.n c.args.text.now)) ≡ some c.in_ok-kind.kind = kind_told _ _ (sym c.in_ok-kind.ensures.ok_part ∙ c.kind_at.ensures) in
    let head : HeaderTold c.args.text.now (c.in_ok-header.header, c.in_ok-header.n) = header_told _ _ (sym c.in_ok-header.ensures.ok_part ∙ c.header_at.ensures) in
    let told : TextTold c.args.text.now c.in_ok-header.header c.in_ok-body.body c.in_ok-body.faults = text_told _ _ _ (text_found _ head letter _ (sym c.in_ok-body.ensures.ok_part ∙ c.body_at.ensures)) in
    reads_unfit _ c.if-text-gt4096.false told c.verdict.result c.verdict.ensures c.in-DoesNotFit.is

pub returns-in_default : goal.returns-in_default
returns-in_default c =
    let letter : kind_lang.parse (take (length c.args.text.now - c.in_ok-header.n) (drop c.in_ok-header.n c.args.text.now)) ≡ some c.in_ok-kind.kind = kind_told _ _ (sym c.in_ok-kind.ensures.ok_part ∙ c.kind_at.ensures) in
    let head : HeaderTold c.args.text.now (c.in_ok-header.header, c.in_ok-header.n) = header_told _ _ (sym c.in_ok-header.ensures.ok_part ∙ c.header_at.ensures) in
    let told : TextTold c.args.text.now c.in_ok-header.header c.in_ok-body.body c.in_ok-body.faults = text_told _ _ _ (text_found _ head letter _ (sym c.in_ok-body.ensures.ok_part ∙ c.body_at.ensures)) in
    reads_accepted _ c.if-text-gt4096.false told c.verdict.result c.verdict.ensures c.in_default.not-DoesNotFit _ c.is_settled.ensures
