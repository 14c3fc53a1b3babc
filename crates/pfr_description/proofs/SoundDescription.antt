-- What is read of a top table is a sound description.
use Rattle.std.proofs.Common.{◌≡◌, ℕ, List, None, Ok}
use Rattle.std.specs.Prelude.{IfOk}
use Rattle.toml.specs.Data.{Members}
use Rattle.pfr_flash.specs.declared.names.Bank.TheVariants.{Bmc, Pch}
use Rattle.pfr_description.specs.Keys.{extra_in}
use Rattle.pfr_description.specs.Tables.{curve_in, form_in, root_in}
use Rattle.pfr_description.specs.Sound.{IsSound}
use Rattle.pfr_description.specs.Typed.{IsKeyValue}
use Rattle.pfr_description.specs.Whole.{top_keys, bank_in, judge_top, document_in, judge_description}
use Rattle.pfr_description.specs.Described.{Description}
use Rattle.pfr_description.proofs.SoundKeys.{after_part, after_any, value_is}
use Rattle.pfr_description.proofs.SoundTables.{root_is}
use Rattle.pfr_description.proofs.SoundBanks.{IsBank, bank_is}

top_is : (top : Members) → IfOk (judge_top top) IsSound
unfolding judge_top
top_is top =
    after_any IsSound (curve_in top) _
    (λ curve. after_any IsSound (form_in top) _
    (λ form. after_any IsSound (extra_in None top_keys top) _
    (λ none. after_part IsKeyValue IsSound (root_in top) _ (root_is top)
    (λ root root_is. after_part (IsBank Bmc) IsSound (bank_in Bmc top) _ (bank_is Bmc top)
    (λ bmc bmc_is. after_part (IsBank Pch) IsSound (bank_in Pch top) _ (bank_is Pch top)
    (λ pch pch_is. record {
      values = record { root = root_is; bmc = bmc_is.values; pch = pch_is.values };
      bmc = bmc_is.sound;
      pch = pch_is.sound;
    }))))))

-- what the top table describes is sound
pub top_sound : (top : Members) (desc : Description) → judge_top top ≡ Ok desc → IsSound desc
top_sound top desc is = value_is IsSound (judge_top top) desc (top_is top) is

-- and so is what a text describes
pub described_is : (text : List ℕ) (desc : Description) → judge_description text ≡ Ok desc → IsSound desc
unfolding judge_description
described_is text desc is = value_is IsSound (judge_description text) desc (after_any IsSound (document_in text) judge_top top_is) is
