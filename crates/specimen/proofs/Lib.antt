-- The law of agreement.
mod AgreementLaws
