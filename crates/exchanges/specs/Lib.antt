pub mod ExchangesLaws
pub mod InnerExchanges
