use Rattle.std.proofs.Common.{◌≡◌, ◌++◌, ap, ◌∙◌, subst, IfOk}
use Rattle.std.specs.Int.{to_be_bytes, w64}
use Rattle.uuid.specs.Text.{hyphenated_text, lower}
use Rattle.group_types.specs.Text.{Text}
use Rattle.group_types.proofs.member_id.MemberId.made.Goals as goal

pub returns : goal.returns
returns c =
    let bytes : c.from_bytes.result ≡ to_be_bytes w64 c.args.salt ++ to_be_bytes w64 c.args.serial =
    rw (c.copy_from_slice-2.ensures.after, c.to_be_bytes-2.ensures, c.copy_from_slice.ensures.after, c.to_be_bytes.ensures) at c.from_bytes.ensures in
    let P : Text → Type 0 = λ text. IfOk c.of.result (λ id. id ≡ text) in
    subst P (c.encode_lower-text.ensures.text ∙ ap (hyphenated_text lower) (c.hyphenated.ensures ∙ bytes)) c.of.ensures
