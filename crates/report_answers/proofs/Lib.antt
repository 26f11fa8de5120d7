pub mod ReportAgreement
