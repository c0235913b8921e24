use Rattle.std.proofs.Common.{◌≡◌, ℕ, List, refl, arith}
use Rattle.kip_msgs.specs.declared.api.Api.{Api}
use Rattle.kip_msgs.specs.declared.fault.MsgFault.TheVariants.{Wire, UnknownApi, UnknownVersion}
use Rattle.flex_wire.specs.declared.fault.WireFault.TheVariants.{Short}
use Rattle.kip_msgs.specs.Heads.{BeginsWith}
use Rattle.kip_msgs.specs.Reading.{api_at}
use Rattle.kip_msgs.proofs.GivesLaws.{reading_failed, failed, if_ok, is_ok_and}
use Rattle.kip_msgs.proofs.HeadLaws.{again, unknown_key_again, unknown_version_again, short_again, front, front_found, front_unknown_key, front_unknown_version, front_short}
use Rattle.kip_msgs.proofs.reading.api_of.Goals as goal

pub returns-clause-found : goal.returns-clause-found
returns-clause-found c =
    let body = c.args.body.now in
    if_ok _ (λ (x : Api × List ℕ). BeginsWith x.0 x.1 body) c.head_of.result (api_at body) c.head_of.ensures (λ x e. front_found body (api_at body) x (front body (λ i. omega (arith, c.type_inv.body i))) e)

pub returns-clause-only : goal.returns-clause-only
returns-clause-only c = λ api rest is.
    is_ok_and _ (λ (x : Api × List ℕ). (x.0 ≡ api) × (x.1 ≡ rest)) (api, rest) c.head_of.result (api_at c.args.body.now) c.head_of.ensures (again c.args.body.now api rest is) (refl, refl)

pub returns-clause-unknown_api : goal.returns-clause-unknown_api
returns-clause-unknown_api c =
    let body = c.args.body.now in (
      (λ e. front_unknown_key body (api_at body) (front body (λ i. omega (arith, c.type_inv.body i))) (reading_failed _ c.head_of.result (api_at body) UnknownApi c.head_of.ensures e)),
      (λ h. failed _ c.head_of.result (api_at body) UnknownApi c.head_of.ensures (unknown_key_again body h)),
    )

pub returns-clause-unknown_version : goal.returns-clause-unknown_version
returns-clause-unknown_version c =
    let body = c.args.body.now in (
      (λ e. front_unknown_version body (api_at body) (front body (λ i. omega (arith, c.type_inv.body i))) (reading_failed _ c.head_of.result (api_at body) UnknownVersion c.head_of.ensures e)),
      (λ h. failed _ c.head_of.result (api_at body) UnknownVersion c.head_of.ensures (unknown_version_again body h)),
    )

pub returns-clause-short : goal.returns-clause-short
returns-clause-short c =
    let body = c.args.body.now in (
      (λ e. front_short body (api_at body) (front body (λ i. omega (arith, c.type_inv.body i))) (reading_failed _ c.head_of.result (api_at body) (Wire Short) c.head_of.ensures e)),
      (λ h. failed _ c.head_of.result (api_at body) (Wire Short) c.head_of.ensures (short_again body h)),
    )
